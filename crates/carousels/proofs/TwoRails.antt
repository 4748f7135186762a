-- The other way round: in one ring of three bays or more every bay has exactly two rails, to the bay at the next place and to the bay at the
-- place before. So "every bay has exactly two rails" says just what "one ring" says.
use mathlib.Core.Path.{◌≡◌, refl, sym, ◌∙◌, ap}
use mathlib.Core.Bool.{true, not}
use mathlib.Core.Logic.{inl, inr, ⊎_elim, ◌↔◌}
use mathlib.Core.List.{List, [], ◌∷◌}
use mathlib.Core.Option.{none}
use Prim.Native.Nat.{ℕ, zero, suc, ◌<◌, ◌≤◌, ◌-◌}
use native.Mathlib.Omega.{arith}
use lib.Dec.{eqb}
use lib.ListN.{length}
use borrow.Author.Tests.{eqb-true, eqb-false, eq-eqb}
use Rattle.paper.specs.Basics.{any, up_to}
use Rattle.paper.specs.Yard.{Bay, Yard, joined, neighbours, carousel}
use Rattle.paper.specs.Docket.{apart_bay}
use Rattle.paper.proofs.Tests.{by_cases, not-both}
use Rattle.paper.proofs.Members.{In-head, In-tail, In-cases, In-one, nothing-in-nil, out-cons, any_some, count-high}
use Rattle.paper.proofs.Rings.{joined-sym}
use Rattle.paper.proofs.Playing.{Sound}
use Rattle.carousels.specs.Round.{Next, Round}
use Rattle.carousels.proofs.Fitting.{no_longer}
use Rattle.carousels.proofs.GoingRound.{in-neighbours, neighbours-joined, neighbours-once, end_low}
use Rattle.carousels.proofs.OneRing.{goes-round, three-bays}

-- ## Places

module _ (n : ℕ) where
  next_of : (i : ℕ) → i < n → (j : ℕ) × (j < n) × Next n i j
  next_of i l =
      by_cases (eqb (suc i) n)
      (λ e. (0, omega arith, inr (eqb-true (suc i) n e, refl)))
      (λ e. let d = eqb-false (suc i) n e in (suc i, omega arith, inl refl))

  before_of : (i : ℕ) → i < n → (j : ℕ) × (j < n) × Next n j i
  before_of zero l = (n - 1, omega arith, inr (omega arith, refl))
  before_of (suc i) l = (i, omega arith, inl refl)

  one-next : (i j k : ℕ) → j < n → k < n → Next n i j → Next n i k → j ≡ k
  one-next i j k hj hk (inl a) (inl b) = omega arith
  one-next i j k hj hk (inl a) (inr b) = let z = b.0 in absurd (omega arith)
  one-next i j k hj hk (inr a) (inl b) = let z = a.0 in absurd (omega arith)
  one-next i j k hj hk (inr a) (inr b) = a.1 ∙ sym b.1

  one-before : (i j k : ℕ) → Next n j i → Next n k i → j ≡ k
  one-before i j k (inl a) (inl b) = omega arith
  one-before i j k (inl a) (inr b) = let z = b.1 in absurd (omega arith)
  one-before i j k (inr a) (inl b) = let z = a.1 in absurd (omega arith)
  one-before i j k (inr a) (inr b) = let z = a.0 in let y = b.0 in omega arith

  two-sides : (i j k : ℕ) → 3 ≤ n → Next n i j → Next n k i → j ≡ k → ⊥
  two-sides i j k h (inl a) (inl b) e = omega arith
  two-sides i j k h (inl a) (inr b) e = let z = b.0 in let y = b.1 in omega arith
  two-sides i j k h (inr a) (inl b) e = let z = a.0 in let y = a.1 in omega arith
  two-sides i j k h (inr a) (inr b) e = let z = a.0 in let y = a.1 in let x = b.0 in omega arith

-- ## Bays

module _ (Y : Yard) (sound : Sound Y) (o : Round Y) (enough : 3 ≤ Y.bays) where
  -- bays at the same place are the same
  same_place : (a b : Bay) → a < Y.bays → b < Y.bays → o.place a ≡ o.place b → a ≡ b
  same_place a b la lb e = sym (o.bay_place a la) ∙ ap o.bay e ∙ o.bay_place b lb

  two-beside : (v : Bay) → v < Y.bays → length (neighbours Y v) ≡ 2
  two-beside v l =
      let n = Y.bays in
      let i = o.place v in
      let s = next_of n i (o.place_low v l) in
      let t = before_of n i (o.place_low v l) in
      let x = o.bay s.0 in
      let y = o.bay t.0 in
      let lx : x < n = o.bay_low s.0 s.1 in
      let ly : y < n = o.bay_low t.0 t.1 in
      let px : o.place x ≡ s.0 = o.place_bay s.0 s.1 in
      let py : o.place y ≡ t.0 = o.place_bay t.0 t.1 in
      let vx : joined Y v x ≡ true = o.joins v x l lx (rw px s.2) in
      let vy : joined Y v y ≡ true = joined-sym Y y v (o.joins y v ly l (rw py t.2)) in
      let differ : x ≡ y → ⊥ = λ e. two-sides n i s.0 t.0 enough s.2 t.2 (sym px ∙ ap o.place e ∙ py) in
      let both : List Bay = x ∷ y ∷ [] in
      let least = no_longer both (neighbours Y v) (out-cons x y [] differ (nothing-in-nil x), (nothing-in-nil y, tt))
      (λ z h. In-cases z x (y ∷ []) h
      (λ e. rw e (in-neighbours Y sound v x vx))
      (λ k. rw (In-one z y k) (in-neighbours Y sound v y vy))) in
      let most = no_longer (neighbours Y v) both (neighbours-once Y sound v)
      (λ z h.
      let j = neighbours-joined Y sound v z h in
      let lz = end_low Y sound v z j in
      ⊎_elim
      (λ k. rw (same_place z x lz lx (one-next n i (o.place z) s.0 (o.place_low z lz) s.1 k s.2 ∙ sym px)) (In-head x (y ∷ [])))
      (λ k. rw (same_place z y lz ly (one-before n i (o.place z) t.0 k t.2 ∙ sym py)) (In-tail y x (y ∷ []) (In-head y [])))
      (o.beside v z l lz j)) in
      omega arith

  ring-carousel : carousel Y ≡ true
  unfolding carousel
  ring-carousel =
      by_cases (any (λ v. not (eqb (length (neighbours Y v)) 2)) (up_to Y.bays))
      (λ e.
      let t = any_some (λ v. not (eqb (length (neighbours Y v)) 2)) (up_to Y.bays) e in
      let two = two-beside t.0 (let h = count-high 0 Y.bays t.0 t.1 in omega arith) in
      not-both t.2 (ap not (eq-eqb _ _ two)))
      (λ e. ap not e)

-- Where every rail leads to another bay and every bay is reached from bay 0, every bay has exactly two rails if and only if the yard is one
-- ring of three bays or more.
pub carousel-exactly : (Y : Yard) → 0 < Y.bays → Sound Y → apart_bay Y ≡ none → (carousel Y ≡ true) ↔ ((3 ≤ Y.bays) × Round Y)
carousel-exactly Y some_bay sound all-joined = (
  λ h. (three-bays Y some_bay sound all-joined h, goes-round Y some_bay sound all-joined h),
  λ r. ring-carousel Y sound r.1 r.0,
)
