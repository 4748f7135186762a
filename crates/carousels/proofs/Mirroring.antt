-- A ring can be gone round the other way: the same bays counted from the other end are in order around it too. So whatever holds
-- going up holds going down.
use mathlib.Core.Path.{◌≡◌, ◌∙◌, ap}
use mathlib.Core.Logic.{inl, inr, ⊎_elim}
use Prim.Native.Nat.{ℕ, suc, ◌<◌, ◌-◌}
use native.Mathlib.Omega.{arith}
use Rattle.paper.specs.Yard.{Bay, Yard}
use Rattle.paper.proofs.Rings.{joined-sym}
use Rattle.carousels.specs.Round.{Next, Round}
use Rattle.carousels.specs.Order.{ahead}
use Rattle.carousels.proofs.Circling.{by-round}

module _ (n i j : ℕ) (hi : i < n) (hj : j < n) where
  next-mirrored : Next n i j → Next n (n - suc j) (n - suc i)
  next-mirrored (inl s) = inl (omega arith)
  next-mirrored (inr s) = let last = s.0 in let first = s.1 in inr (omega arith, omega arith)

  mirrored-next : Next n (n - suc i) (n - suc j) → Next n j i
  mirrored-next (inl s) = inl (omega arith)
  mirrored-next (inr s) = let last = s.0 in let first = s.1 in inr (omega arith, omega arith)

  -- on from i to j in the mirror is on from j to i
  ahead-mirrored : ahead n (n - suc i) (n - suc j) ≡ ahead n j i
  ahead-mirrored =
      let i' = n - suc i in
      let j' = n - suc j in
      let hi' : i' < n = omega arith in
      by-round n i' j' hi'
      (λ l e. by-round n j i hj (λ m f. omega arith) (λ m f. absurd (omega arith)))
      (λ l e. by-round n j i hj (λ m f. absurd (omega arith)) (λ m f. omega arith))

pub mirror : (Y : Yard) → Round Y → Round Y
mirror Y o =
    let n = Y.bays in
    record {
      place = λ b. n - suc (o.place b);
      bay = λ i. o.bay (n - suc i);
      place_low = λ b h. let l = o.place_low b h in omega arith;
      bay_low = λ i h. o.bay_low (n - suc i) (omega arith);
      place_bay = λ i h. let e = o.place_bay (n - suc i) (omega arith) in omega arith;
      bay_place = λ b h.
          let l = o.place_low b h in
          let twice : n - suc (n - suc (o.place b)) ≡ o.place b = omega arith in
          ap o.bay twice ∙ o.bay_place b h;
      beside = λ a b ha hb j. ⊎_elim
          (λ k. inr (next-mirrored n (o.place a) (o.place b) (o.place_low a ha) (o.place_low b hb) k))
          (λ k. inl (next-mirrored n (o.place b) (o.place a) (o.place_low b hb) (o.place_low a ha) k))
          (o.beside a b ha hb j);
      joins = λ a b ha hb k.
          joined-sym Y b a (o.joins b a hb ha (mirrored-next n (o.place a) (o.place b) (o.place_low a ha) (o.place_low b hb) k));
    }

module _ (Y : Yard) (o : Round Y) (a b : Bay) (ha : a < Y.bays) (hb : b < Y.bays) where
  pub mirror-ahead : ahead Y.bays ((mirror Y o).place a) ((mirror Y o).place b) ≡ ahead Y.bays (o.place b) (o.place a)
  unfolding mirror
  mirror-ahead = ahead-mirrored Y.bays (o.place a) (o.place b) (o.place_low a ha) (o.place_low b hb)

  pub mirror-next : Next Y.bays (o.place b) (o.place a) → Next Y.bays ((mirror Y o).place a) ((mirror Y o).place b)
  unfolding mirror
  mirror-next k = next-mirrored Y.bays (o.place b) (o.place a) (o.place_low b hb) (o.place_low a ha) k
