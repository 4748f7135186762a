-- With the names of two carriers traded in placements and crossings alike, what was legal is legal and leads to the traded
-- placement: no rule looks at a carrier's name.
use mathlib.Core.Path.{◌≡◌, refl, sym, ◌∙◌, ap}
use mathlib.Core.Bool.{true, false}
use mathlib.Core.List.{List, [], ◌∷◌, map}
use Prim.Native.Nat.{◌<◌}
use lib.Dec.{eqb}
use lib.ListN.{length, get_or, set, length-set}
use lib.Seq.{get_or-set_same, get_or-set_other, ext_get_or}
use borrow.Author.Tests.{eqb-true, eqb-false, eq-eqb}
use Rattle.paper.specs.Yard.{Carrier, Yard, Placement, Crossing, bay_of, move, after, reverse_of, legal_plan}
use Rattle.paper.specs.Procedure.{trade, traded, renamed, undo}
use Rattle.paper.proofs.Tests.{by_cases}
use Rattle.paper.proofs.Playing.{Apart, Legal, legal-facts, legal-of, after-length, plan-head, plan-tail, out_of, out-no}
use Rattle.paper.proofs.Reversing.{reverse-leads-back, reverse-legal}

pub traded-length : (L M : Carrier) (p : Placement) → length (traded L M p) ≡ length p
unfolding traded
traded-length L M p = length-set (set p L (bay_of p M)) M (bay_of p L) ∙ length-set p L (bay_of p M)

module _ (L M : Carrier) where
  pub trade-first : trade L M L ≡ M
  unfolding trade
  trade-first = rw (eq-eqb L L refl)

  pub trade-second : trade L M M ≡ L
  unfolding trade
  trade-second = by_cases (eqb M L) (λ e. rw e (eqb-true M L e)) (λ e. rw (e, eq-eqb M M refl))

  pub trade-other : (c : Carrier) → eqb c L ≡ false → eqb c M ≡ false → trade L M c ≡ c
  unfolding trade
  trade-other c a b = rw (a, b)

  -- each carrier is the first, the second, or another
  pub which : {P : Type 0} (c : Carrier) → (c ≡ L → P) → (c ≡ M → P) → (eqb c L ≡ false → eqb c M ≡ false → P) → P
  which c f g h = by_cases (eqb c L) (λ e. f (eqb-true c L e)) (λ e. by_cases (eqb c M) (λ k. g (eqb-true c M k)) (λ k. h e k))

  pub trade-twice : (c : Carrier) → trade L M (trade L M c) ≡ c
  trade-twice c =
      which c
      (λ e. rw (e, trade-first, trade-second))
      (λ e. rw (e, trade-second, trade-first))
      (λ a b. rw (trade-other c a b, trade-other c a b))

  module _ (p : Placement) (hL : L < length p) (hM : M < length p) where
    pub trade-there : (c : Carrier) → c < length p → trade L M c < length p
    trade-there c h = which c (λ e. rw (e, trade-first) hM) (λ e. rw (e, trade-second) hL) (λ a b. rw (trade-other c a b) h)

    pub traded-bay : (c : Carrier) → bay_of (traded L M p) c ≡ bay_of p (trade L M c)
    unfolding traded
    traded-bay c =
        let p₁ = set p L (bay_of p M) in
        let hM₁ : M < length p₁ = rw length-set hM in
        let at-M : get_or (set p₁ M (bay_of p L)) M 0 ≡ bay_of p L = get_or-set_same p₁ M (bay_of p L) 0 hM₁ in
        which c
        (λ e. rw (e, trade-first) (by_cases (eqb L M)
        (λ k. let n = eqb-true L M k in cc at-M)
        (λ k. get_or-set_other p₁ M L (bay_of p L) 0 (eqb-false L M k) ∙ get_or-set_same p L (bay_of p M) 0 hL)))
        (λ e. rw (e, trade-second) at-M)
        (λ a b. rw (trade-other c a b)
        (get_or-set_other p₁ M c (bay_of p L) 0 (eqb-false c M b) ∙ get_or-set_other p L c (bay_of p M) 0 (eqb-false c L a)))

module _ (Y : Yard) (L M : Carrier) where
  pub renamed-legal : (p : Placement) → L < length p → M < length p → (x : Crossing) → Legal Y p x → Legal Y (traded L M p) (renamed L M x)
  renamed-legal p hL hM x l = record {
    there = rw traded-length (trade-there L M p hL hM x.carrier l.there);
    stands = traded-bay L M p hL hM (trade L M x.carrier) ∙ ap (bay_of p) (trade-twice L M x.carrier) ∙ l.stands;
    rail = l.rail;
    free = out_of (traded L M p) x.to
        (λ c h e. out-no p x.to l.free (trade L M c) (trade-there L M p hL hM c (rw traded-length at h)) (sym (traded-bay L M p hL hM c) ∙ e));
  }

  pub renamed-move : (p : Placement) → L < length p → M < length p → (x : Crossing) → x.carrier < length p
      → move (traded L M p) (renamed L M x) ≡ traded L M (move p x)
  renamed-move p hL hM x h =
      ext_get_or 0 (move (traded L M p) (renamed L M x)) (traded L M (move p x)) (simp (length-set, traded-length))
      (λ c k.
      let to = x.to in
      let n = x.carrier in
      let right : bay_of (traded L M (move p x)) c ≡ bay_of (move p x) (trade L M c) =
      traded-bay L M (move p x) (rw length-set hL) (rw length-set hM) c in
      by_cases (eqb (trade L M c) n)
      (λ e.
      let same : trade L M c ≡ n = eqb-true (trade L M c) n e in
      let c-is : c ≡ trade L M n = sym (trade-twice L M c) ∙ ap (trade L M) same in
      let hit : get_or (set (traded L M p) (trade L M n) to) (trade L M n) 0 ≡ to =
      get_or-set_same (traded L M p) (trade L M n) to 0 (rw traded-length (trade-there L M p hL hM n h)) in
      let hit' : get_or (set p n to) n 0 ≡ to = get_or-set_same p n to 0 h in
      cc (right, hit, hit'))
      (λ e.
      let other : get_or (set (traded L M p) (trade L M n) to) c 0 ≡ bay_of (traded L M p) c =
      get_or-set_other (traded L M p) (trade L M n) c to 0 (λ q. eqb-false (trade L M c) n e (ap (trade L M) q ∙ trade-twice L M n)) in
      let other' : get_or (set p n to) (trade L M c) 0 ≡ bay_of p (trade L M c) =
      get_or-set_other p n (trade L M c) to 0 (eqb-false (trade L M c) n e) in
      cc (right, other, other', traded-bay L M p hL hM c)))

  -- a legal list with the two names traded is legal from the traded placement, and leads to the traded one
  pub renamed-plan : (p : Placement) → L < length p → M < length p → (xs : List Crossing) → legal_plan Y p xs ≡ true
      → (legal_plan Y (traded L M p) (map (renamed L M) xs) ≡ true) × (after (traded L M p) (map (renamed L M) xs) ≡ traded L M (after p xs))
  unfolding after legal_plan
  renamed-plan p hL hM [] h = (refl, refl)
  renamed-plan p hL hM (x ∷ xs) h =
      let l = legal-facts Y p x (plan-head Y p x xs h) in
      let ih = renamed-plan (move p x) (rw length-set hL) (rw length-set hM) xs (plan-tail Y p x xs h) in
      let m = renamed-move p hL hM x l.there in
      (rw (legal-of Y (traded L M p) (renamed L M x) (renamed-legal p hL hM x l), m) ih.0, ap (λ q. after q (map (renamed L M) xs)) m ∙ ih.1)

  -- Undoing from the traded placement is legal and leads to the traded start.
  pub undo-undoes : (p : Placement) → Apart p → L < length p → M < length p → (xs : List Crossing) → legal_plan Y p xs ≡ true
      → (legal_plan Y (traded L M (after p xs)) (undo L M xs) ≡ true) × (after (traded L M (after p xs)) (undo L M xs) ≡ traded L M p)
  unfolding undo
  undo-undoes p apart hL hM xs h =
      let r = renamed-plan (after p xs) (rw after-length hL) (rw after-length hM) (reverse_of xs) (reverse-legal Y p xs apart h) in
      (r.0, r.1 ∙ ap (traded L M) (reverse-leads-back Y p xs h))
