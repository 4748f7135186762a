-- The reverse of a legal list is legal from its end and gives the start back: after a legal crossing the bay it left is empty
-- and its rail leads back.
use mathlib.Core.Path.{◌≡◌, refl, sym, ◌∙◌, ap}
use mathlib.Core.Bool.{true}
use mathlib.Core.List.{List, [], ◌∷◌, ◌++◌, map, reverse, reverse-cons, map-append}
use lib.ListN.{set}
use lib.Seq.{set-set, set-get_or, lt-length-set}
use Rattle.paper.specs.Yard.{Yard, Placement, Crossing, turned, reverse_of, move, after, legal_plan}
use Rattle.paper.proofs.Rings.{joined-sym}
use Rattle.paper.proofs.Playing.{Apart, Legal, legal-facts, legal-of, after-append, plan-head, plan-tail, plan-cons, plan-append, move-self, move-apart, move-empties}

pub reverse-of-cons : (x : Crossing) (xs : List Crossing) → reverse_of (x ∷ xs) ≡ reverse_of xs ++ (turned x ∷ [])
unfolding reverse_of
reverse-of-cons x xs = ap (map turned) (reverse-cons x xs) ∙ map-append turned (reverse xs) (x ∷ [])

module _ (Y : Yard) where
  -- after a legal crossing its reverse is legal, and leads back
  pub turned-legal : (p : Placement) (x : Crossing) → Legal Y p x → Apart p → Legal Y (move p x) (turned x)
  turned-legal p x l apart = record {
    there = lt-length-set p x.carrier x.to l.there;
    stands = move-self Y p x l;
    rail = joined-sym Y x.from x.to l.rail;
    free = move-empties Y p x l apart;
  }

  pub turned-leads-back : (p : Placement) (x : Crossing) → Legal Y p x → move (move p x) (turned x) ≡ p
  turned-leads-back p x l =
      set-set p x.carrier x.to x.from ∙ ap (λ b. set p x.carrier b) (sym l.stands) ∙ set-get_or p x.carrier 0

  -- A legal list and then its reverse lead back to the placement,
  pub reverse-leads-back : (p : Placement) (xs : List Crossing) → legal_plan Y p xs ≡ true → after (after p xs) (reverse_of xs) ≡ p
  unfolding after reverse_of
  reverse-leads-back p [] h = refl
  reverse-leads-back p (x ∷ xs) h =
      let l = legal-facts Y p x (plan-head Y p x xs h) in
      let ih = reverse-leads-back (move p x) xs (plan-tail Y p x xs h) in
      rw (reverse-of-cons, after-append) (rw ih (turned-leads-back p x l))

  -- and the reverse is legal.
  pub reverse-legal : (p : Placement) (xs : List Crossing) → Apart p → legal_plan Y p xs ≡ true → legal_plan Y (after p xs) (reverse_of xs) ≡ true
  unfolding after reverse_of legal_plan
  reverse-legal p [] apart h = refl
  reverse-legal p (x ∷ xs) apart h =
      let l = legal-facts Y p x (plan-head Y p x xs h) in
      let t = plan-tail Y p x xs h in
      let ih = reverse-legal (move p x) xs (move-apart Y p x l apart) t in
      rw reverse-of-cons (plan-append Y (after (move p x) xs) (reverse_of xs) (turned x ∷ []) ih (rw (reverse-leads-back (move p x) xs t) (plan-cons Y (move p x) (turned x) [] (legal-of Y (move p x) (turned x) (turned-legal p x l apart)) refl)))
