-- A bring vacates and enters one bay after the other, and what it does from a bay on depends on the placement there alone: so a bring along two
-- parts of a way is a bring along the first and, from where that ends, one along the second.
-- Assumes nothing.
use mathlib.Core.Path.{◌≡◌, refl, sym, ◌∙◌, ap}
use mathlib.Core.List.{List, [], ◌∷◌, ◌++◌, append_assoc}
use mathlib.Core.Option.{Option, none, some}
use native.Mathlib.Omega.{arith}
use Rattle.paper.specs.Basics.{◌>>=◌}
use Rattle.paper.specs.Yard.{Bay, Carrier, Yard, Placement, Crossing, crossing, bay_of, move, after}
use Rattle.paper.specs.Procedure.{Made, only, together, ◌then◌, cross, their_bays, vacate, bring}
use Rattle.paper.proofs.Tests.{by-option, never-some, some_same}
use Rattle.paper.proofs.Playing.{after-append}
use Rattle.paper.proofs.Making.{same-made, together-assoc, none-together}

-- ## What is made, and then what the rest makes

-- what comes after nothing
ahead_none : (o : Option Made) → (o >>= λ b. some (together (only []) b)) ≡ o
ahead_none none = refl
ahead_none (some b) = ap some (none-together b)

-- one ahead of another is both ahead
ahead-ahead : (a b : Made) (o : Option Made)
    → ((o >>= λ d. some (together b d)) >>= λ d. some (together a d)) ≡ (o >>= λ d. some (together (together a b) d))
ahead-ahead a b none = refl
ahead-ahead a b (some d) = ap some (sym (together-assoc a b d))

-- ## One bay

module _ (Y : Yard) (L M : Carrier) (x : Bay) (p : Placement) where
  -- the bay vacated and entered by the two: the rest of the way comes after it
  record Entered : Type 0 where
    made : Made
    goes_on : (xs : List Bay) → bring Y L M (x ∷ xs) p ≡ (bring Y L M xs (after p made.moves) >>= λ b. some (together made b))

  entered : (a : Made) → vacate Y (their_bays L M p) x p ≡ some a → Entered
  unfolding bring ◌then◌ cross after
  entered a e =
      let q = after p a.moves in
      let one = crossing L (bay_of q L) x in
      let two = crossing M (bay_of (move q one) M) (bay_of p L) in
      record {
        made = together a (only (one ∷ two ∷ []));
        goes_on = λ xs. rw (e, after-append) (regroup a one two (bring Y L M xs (move (move q one) two)));
      }
    where
      regroup : (a : Made) (one two : Crossing) (o : Option Made)
          → (((o >>= λ d. some (together (only (two ∷ [])) d)) >>= λ d. some (together (only (one ∷ [])) d)) >>= λ d. some (together a d))
          ≡ (o >>= λ d. some (together (together a (only (one ∷ two ∷ []))) d))
      regroup a one two none = refl
      regroup a one two (some d) = ap some (same-made (sym (append_assoc a.moves (one ∷ two ∷ []) d.moves)) (omega arith))

  -- the bay cannot be vacated
  stuck : vacate Y (their_bays L M p) x p ≡ none → (xs : List Bay) → bring Y L M (x ∷ xs) p ≡ none
  unfolding bring ◌then◌
  stuck e xs = rw e

  -- by whether it can
  by-bay : {P : Type 0} → (((xs : List Bay) → bring Y L M (x ∷ xs) p ≡ none) → P) → (Entered → P) → P
  by-bay f g = by-option (vacate Y (their_bays L M p) x p) (λ e. f (stuck e)) (λ a e. g (entered a e))

-- ## Two parts of a way

module _ (Y : Yard) (L M : Carrier) where
  -- The first part succeeds: the second follows it.
  pub bring-on : (xs ys : List Bay) (p : Placement) (a : Made) → bring Y L M xs p ≡ some a
      → bring Y L M (xs ++ ys) p ≡ (bring Y L M ys (after p a.moves) >>= λ b. some (together a b))
  bring-on [] ys p a e =
      let nil : only [] ≡ a = some_same (unfold bring in e) in
      rw (← nil) (unfold after in sym (ahead_none (bring Y L M ys p)))
  bring-on (x ∷ xs) ys p a e =
      by-bay Y L M x p
      (λ f. never-some a (sym (f xs) ∙ e))
      (λ n. let q = after p n.made.moves in
      by-option (bring Y L M xs q)
      (λ s. never-some a (sym (rw s at (n.goes_on xs)) ∙ e))
      (λ b s.
      let both : together n.made b ≡ a = some_same (sym (rw s at (n.goes_on xs)) ∙ e) in
      let rest = bring Y L M ys (after q b.moves) in
      let whole : bring Y L M (x ∷ (xs ++ ys)) p ≡ (rest >>= λ d. some (together (together n.made b) d)) =
      n.goes_on (xs ++ ys) ∙ rw (bring-on xs ys q b s) (ahead-ahead n.made b rest) in
      rw (← both, after-append) whole))

  -- It fails: so does the whole.
  pub bring-stopped : (xs ys : List Bay) (p : Placement) → bring Y L M xs p ≡ none → bring Y L M (xs ++ ys) p ≡ none
  bring-stopped [] ys p e = never-some (only []) (sym (unfold bring in e))
  bring-stopped (x ∷ xs) ys p e =
      by-bay Y L M x p
      (λ f. f (xs ++ ys))
      (λ n. let q = after p n.made.moves in
      by-option (bring Y L M xs q)
      (λ s. n.goes_on (xs ++ ys) ∙ rw (bring-stopped xs ys q s))
      (λ b s. never-some (together n.made b) (sym e ∙ rw s at (n.goes_on xs))))
