-- In a carousel one can walk round from bay 0: from each bay by the rail that one did not come by. There is always exactly one, since a bay
-- has two rails.
use mathlib.Core.Path.{◌≡◌, refl, sym, ◌∙◌, ap}
use mathlib.Core.Bool.{true, not}
use mathlib.Core.Logic.{◌⊎◌, inl, inr}
use mathlib.Core.List.{List, [], ◌∷◌}
use Prim.Native.Nat.{ℕ, zero, suc, ◌<◌}
use native.Mathlib.Omega.{arith}
use lib.Dec.{eqb}
use lib.ListN.{length}
use borrow.Author.Tests.{not-true, eqb-true}
use Rattle.paper.specs.Basics.{up_to, In, NoDup}
use Rattle.paper.specs.Yard.{Bay, Yard, joined, neighbours, carousel}
use Rattle.paper.proofs.Tests.{by_cases, not-both}
use Rattle.paper.proofs.Members.{In-nil, In-head, In-tail, In-cases, In-one, Out-head, any_of, in-filter, filter_passes, nodup-filter, nodup-count, in_count, count-high}
use Rattle.paper.proofs.Rings.{joined-sym}
use Rattle.paper.proofs.Playing.{Sound}

-- A walk along the rails from bay 0, never straight back; a bay that it comes to is joined with the one before and the one after only.
pub record GoingRound (Y : Yard) : Type 0 where
  pub at : ℕ → Bay
  pub begins : at 0 ≡ 0
  pub low : (k : ℕ) → at k < Y.bays
  pub rail : (k : ℕ) → joined Y (at k) (at (suc k)) ≡ true
  pub onward : (k : ℕ) → at (suc (suc k)) ≡ at k → ⊥
  pub only : (k : ℕ) (x : Bay) → joined Y (at (suc k)) x ≡ true → (x ≡ at k) ⊎ (x ≡ at (suc (suc k)))

-- the member of a list of two that is not u
record Other (l : List ℕ) (u : ℕ) : Type 0 where
  that : ℕ
  there : In that l
  differs : that ≡ u → ⊥
  only : (x : ℕ) → In x l → (x ≡ u) ⊎ (x ≡ that)

other-of : (l : List ℕ) → NoDup l → length l ≡ 2 → (u : ℕ) → In u l → Other l u
other-of [] n h u i = In-nil u i
other-of (a ∷ []) n h u i = absurd (omega arith)
other-of (a ∷ b ∷ []) n h u i =
    In-cases u a (b ∷ []) i
    (λ e. record {
      that = b;
      there = In-tail b a (b ∷ []) (In-head b []);
      differs = λ k. Out-head a b [] n.0 (sym (k ∙ e));
      only = λ x j. In-cases x a (b ∷ []) j (λ k. inl (k ∙ sym e)) (λ k. inr (In-one x b k));
    })
    (λ i'.
    let e = In-one u b i' in
    record {
      that = a;
      there = In-head a (b ∷ []);
      differs = λ k. Out-head a b [] n.0 (k ∙ e);
      only = λ x j. In-cases x a (b ∷ []) j (λ k. inr k) (λ k. inl (In-one x b k ∙ sym e));
    })
other-of (a ∷ b ∷ c ∷ l) n h u i = absurd (omega arith)

some-member : (l : List ℕ) → length l ≡ 2 → (u : ℕ) × In u l
some-member [] h = absurd (omega arith)
some-member (a ∷ l) h = (a, In-head a l)

module _ (Y : Yard) (sound : Sound Y) where
  pub end_low : (u v : Bay) → joined Y u v ≡ true → v < Y.bays
  end_low u v j = let l = count-high 0 Y.bays v (sound.inside u v j) in omega arith

  pub in-neighbours : (v x : Bay) → joined Y v x ≡ true → In x (neighbours Y v)
  unfolding neighbours
  in-neighbours v x j = in-filter (joined Y v) (up_to Y.bays) x (sound.inside v x j) j

  pub neighbours-joined : (v x : Bay) → In x (neighbours Y v) → joined Y v x ≡ true
  unfolding neighbours
  neighbours-joined v x i = filter_passes (joined Y v) (up_to Y.bays) x i

  pub neighbours-once : (v : Bay) → NoDup (neighbours Y v)
  unfolding neighbours
  neighbours-once v = nodup-filter (joined Y v) (up_to Y.bays) (nodup-count 0 Y.bays)

module _ (Y : Yard) (sound : Sound Y) (two-each : carousel Y ≡ true) where
  two-rails : (v : Bay) → v < Y.bays → length (neighbours Y v) ≡ 2
  unfolding carousel
  two-rails v l =
      by_cases (eqb (length (neighbours Y v)) 2)
      (λ e. eqb-true _ _ e)
      (λ e. not-both
      (any_of (λ u. not (eqb (length (neighbours Y u)) 2)) (up_to Y.bays) v (in_count 0 Y.bays v (omega arith) (omega arith)) (ap not e))
      (not-true _ two-each))

  -- one rail of the walk
  record Leg : Type 0 where
    from : Bay
    to : Bay
    low : from < Y.bays
    rail : joined Y from to ≡ true

  -- the bay beyond it
  beyond : (l : Leg) → Other (neighbours Y l.to) l.from
  beyond l =
      other-of (neighbours Y l.to) (neighbours-once Y sound l.to)
      (two-rails l.to (end_low Y sound l.from l.to l.rail))
      l.from
      (in-neighbours Y sound l.to l.from (joined-sym Y l.from l.to l.rail))

  next-leg : Leg → Leg
  next-leg l = record {
    from = l.to;
    to = (beyond l).that;
    low = end_low Y sound l.from l.to l.rail;
    rail = neighbours-joined Y sound l.to (beyond l).that (beyond l).there;
  }

  module _ (some_bay : 0 < Y.bays) where
    first-leg : Leg
    first-leg =
        let s = some-member (neighbours Y 0) (two-rails 0 some_bay) in
        record { from = 0; to = s.0; low = some_bay; rail = neighbours-joined Y sound 0 s.0 s.1 }

    leg : ℕ → Leg
    leg zero = first-leg
    leg (suc k) = next-leg (leg k)

    pub going-round : GoingRound Y
    unfolding first-leg leg next-leg
    going-round = record {
      at = λ k. (leg k).from;
      begins = refl;
      low = λ k. (leg k).low;
      rail = λ k. (leg k).rail;
      onward = λ k. (beyond (leg k)).differs;
      only = λ k x j. (beyond (leg k)).only x (in-neighbours Y sound (leg k).to x j);
    }
