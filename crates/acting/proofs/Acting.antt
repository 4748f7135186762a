-- The code's answer and the paper's go together: a tally where something is made, failure where nothing is.
-- Assumes nothing.
use Rattle.std.proofs.Common.{None, Some}
use mathlib.Core.Path.{◌≡◌, sym, ◌∙◌, ap, refl}
use mathlib.Core.List.{List, [], map, map-append}
use mathlib.Core.Option.{Option, none, some}
use Prim.Native.Nat.{ℕ, ◌≤◌, ◌<◌, ◌+◌}
use native.Mathlib.Omega.{arith}
use lib.ListN.{length, length-append, length-map}
use Rattle.acting.specs.Acting.{nothing, AsFar, FilledIn, parks, Counts, Tallied, Within, Acts, Tries, Proceeds}
use Rattle.paper.specs.Basics.{up_to, In}
use Rattle.paper.specs.Procedure.{Made, only, together, parking, vacate}
use Rattle.paper.specs.Yard.{Bay, Yard, Crossing, pack, after}
use Rattle.paper.proofs.Members.{count-high, in_count}
use Rattle.paper.proofs.Playing.{Apart, after-append}
use Rattle.paper.proofs.Tests.{by-option, never-some, some_same, none_from, some-from, never}
use Rattle.paper.proofs.Vacating.{vacate-parks, filled-inside}
use Rattle.words.specs.Sets.{span}
use Rattle.moving.specs.Placed.{Placed, Played, Unchanged}
use Rattle.rings.specs.Search.{Shown}
use Rattle.vacate.specs.Answer.{count_after, filled, Vacates}
use Rattle.vacate.proofs.Answers.{answered-failed, answered-count}
use Rattle.moving.proofs.Playing.{stored-none, stored-then}
use Rattle.acting.proofs.Junctions.{parks-few}
use Rattle.acting.specs.declared.Tally.{Tally}
use Rattle.acting.specs.Tried.{Tried}
use Rattle.vacate.specs.declared.Vacated.{Vacated}
use Rattle.vacate.specs.declared.Vacated.TheVariants.{Empty, Filled, Failed as NotVacated}

-- ## Tallies

pub as-far-then : (at j k x y : ℕ) → AsFar j (at + x) → AsFar k (j + y) → AsFar k (at + (x + y))
as-far-then at j k x y a b = omega (arith, a, b)

pub as-far-none : (at : ℕ) → AsFar at (at + 0)
as-far-none at = omega arith

-- crossings alone
pub tallied-only : {xs : List Crossing} {n : ℕ} {p p' standing' empty' out out' : List ℕ} {at r : Tally}
    → Played xs n p p' standing' empty' out at.crossings out' r.crossings → r.parked ≡ at.parked → Tallied (only xs) n p p' standing' empty' out at out' r
tallied-only w e = record {
  moved = w.moved;
  placed = w.placed;
  stored = w.stored;
  counted = w.counted;
  parks = omega (arith, e);
  few = λ h. omega (arith, h, e, w.counted);
}

-- the same, stored from a place in the list on
pub tallied-from : {xs : List Crossing} {n : ℕ} {p p' standing' empty' out out' : List ℕ} {made r : ℕ} (parked : ℕ)
    → Played xs n p p' standing' empty' out made out' r
    → Tallied (only xs) n p p' standing' empty' out (record { crossings = made; parked = parked }) out' (record { crossings = r; parked = parked })
tallied-from parked w = tallied-only w refl

few-filled : (parked most crossings many : ℕ) → parked ≡ most → most ≤ 1 → crossings ≡ 0 + many → 0 < many → parked ≤ crossings
few-filled parked most crossings many a b c d = omega (arith, a, b, c, d)

as-far-same : (j k : ℕ) → j ≡ k → AsFar j (0 + k)
as-far-same j k e = omega (arith, e)

-- a vacate that filled bay e
pub tallied-filled : {xs : List Crossing} {n : ℕ} {p p' standing' empty' out out' : List ℕ} {r : Tally} (Y : Yard) (e : Bay)
    → Played xs n p p' standing' empty' out 0 out' r.crossings → 0 < length xs → r.parked ≡ parks Y e
    → Tallied (record { moves = xs; parked = parking Y e }) n p p' standing' empty' out nothing out' r
tallied-filled Y e w some-crossed f = record {
  moved = w.moved;
  placed = w.placed;
  stored = w.stored;
  counted = w.counted;
  parks = as-far-same _ _ f;
  few = λ h. few-filled _ _ _ _ f (parks-few Y e) w.counted some-crossed;
}

-- nothing made
pub tallied-none : (n : ℕ) (p standing empty out : List ℕ) (at : Tally) → Placed n p standing empty → Tallied (only []) n p p standing empty out at out at
unfolding after
tallied-none n p standing empty out at k = record {
  moved = refl;
  placed = k;
  stored = stored-none out at.crossings;
  counted = omega arith;
  parks = as-far-none at.parked;
  few = λ h. h;
}

-- one thing made after another
pub tallied-then : {n : ℕ} {a b : Made} {p q p' standing standing' empty empty' out out₁ out' : List ℕ} {at m r : Tally}
    → Tallied a n p q standing empty out at out₁ m → Tallied b n q p' standing' empty' out₁ m out' r → Tallied (together a b) n p p' standing' empty' out at out' r
tallied-then {a = a} {b = b} {p = p} {at = at} {m = m} {r = r} x y = record {
  moved = y.moved ∙ ap (λ (q : List ℕ). after q b.moves) x.moved ∙ sym (after-append p a.moves b.moves);
  placed = y.placed;
  stored = rw map-append (stored-then (x.counted ∙ rw length-map) x.stored y.stored);
  counted = y.counted ∙ rw (x.counted, length-append) (omega arith);
  parks = as-far-then at.parked m.parked r.parked a.parked b.parked x.parks y.parks;
  few = λ h. y.few (x.few h);
}

-- ## Answers

module _ {o : Option Made} {n : ℕ} {p out : List ℕ} {at : Tally} {p' standing' empty' out' : List ℕ} where
  pub tries-none : o ≡ none → Tries o n p out at p' standing' empty' out' None
  tries-none e = record { fails = λ d. refl; succeeds = λ m d. never-some m (sym e ∙ d) }

  pub tries-some : {r : Tally} {m : Made} → o ≡ some m → Tallied m n p p' standing' empty' out at out' r → Tries o n p out at p' standing' empty' out' (Some r)
  tries-some {r} {m} e s = record {
    fails = λ d. never-some m (sym d ∙ e);
    succeeds = λ k d. let same : m ≡ k = some_same (sym e ∙ d) in record { count = r; done = refl; played = rw same at s };
  }

  pub tried-done : {r : Tally} → Tries o n p out at p' standing' empty' out' (Some r) → (m : Made) × (o ≡ some m) × Tallied m n p p' standing' empty' out at out' r
  tried-done {r} h =
      by-option o
      (λ e. let z = h.fails e in never (cc))
      (λ m e.
      let s = h.succeeds m e in
      let same : s.count ≡ r = let z = s.done in cc in
      (m, e, rw same at s.played))

  pub tried-failed : Tries o n p out at p' standing' empty' out' None → o ≡ none
  tried-failed h = by-option o (λ e. e) (λ m e. let z = (h.succeeds m e).done in never (cc))

  pub proceeds-none : o ≡ none → p' ≡ p → Proceeds o n p out at p' standing' empty' out' None
  proceeds-none e u = record { tries = tries-none e; still = λ d. u }

  pub proceeds-some : {r : Tally} {m : Made} → o ≡ some m → Tallied m n p p' standing' empty' out at out' r → Proceeds o n p out at p' standing' empty' out' (Some r)
  proceeds-some e s = record { tries = tries-some e s; still = λ d. never (cc) }

module _ {o : Option Made} {n : ℕ} {p standing empty out : List ℕ} {at : Tally} {p' standing' empty' out' : List ℕ} where
  pub acts-none : o ≡ none → Unchanged p standing empty out p' standing' empty' out' → Acts o n p standing empty out at p' standing' empty' out' None
  acts-none e u = record { fails = λ d. (refl, u); succeeds = λ m d. never-some m (sym e ∙ d) }

  pub acts-some : {r : Tally} {m : Made} → o ≡ some m → Tallied m n p p' standing' empty' out at out' r → Acts o n p standing empty out at p' standing' empty' out' (Some r)
  acts-some {r} {m} e s = record {
    fails = λ d. never-some m (sym d ∙ e);
    succeeds = λ k d. let same : m ≡ k = some_same (sym e ∙ d) in record { count = r; done = refl; played = rw same at s };
  }

  pub acts-tries : {r : Tried} → Acts o n p standing empty out at p' standing' empty' out' r → Tries o n p out at p' standing' empty' out' r
  acts-tries h = record { fails = λ d. (h.fails d).0; succeeds = h.succeeds }

  pub acted-done : {r : Tally} → Acts o n p standing empty out at p' standing' empty' out' (Some r) → (m : Made) × (o ≡ some m) × Tallied m n p p' standing' empty' out at out' r
  acted-done h = tried-done (acts-tries h)

  pub acted-failed : Acts o n p standing empty out at p' standing' empty' out' None → o ≡ none
  acted-failed h = tried-failed (acts-tries h)

-- ## Vacating, by its tally

counted-after : (Y : Yard) (v : Vacated) (r : Tally) → Counts Y v (Some r) → count_after v ≡ some r.crossings
counted-after Y Empty r c = let same : nothing ≡ r = cc in ap (λ (z : Tally). some z.crossings) same
counted-after Y (Filled e m) r c = let same : c.0 ≡ r = let z = c.1 in cc in let z = rw same at c.2 in rw z
counted-after Y NotVacated r c = never (cc)

module _ {n : ℕ} {table held : List ℕ} {s : Shown n table held} {x : Bay} {p standing empty out p' standing' empty' out' : List ℕ} where
  -- what is made, up to the tally that the answer carries
  room-made : (v : Vacated) (r : Tally) → Vacates s x p standing empty out p' standing' empty' out' v → count_after v ≡ some r.crossings → Counts s.yard v (Some r)
      → (m : Made) × (vacate s.yard s.bays x p ≡ some m) × Tallied m n p p' standing' empty' out nothing out' r
  room-made Empty r h e c =
      let w = answered-count h e in
      let f = some-from (λ (m : Made). m.moves) (vacate s.yard s.bays x p) w.1 in
      let m = f.0 in
      let none-parked : m.parked ≡ 0 = vacate-parks s.yard s.bays x p m f.1 ∙ rw (← h.fills) in
      let same : nothing ≡ r = cc in
      let same-parked : 0 ≡ r.parked = ap (λ (z : Tally). z.parked) same in
      let k : Played m.moves n p p' standing' empty' out 0 out' r.crossings = rw f.2 w.2 in (
        m,
        f.1,
        record {
          moved = k.moved;
          placed = k.placed;
          stored = k.stored;
          counted = k.counted;
          parks = omega (arith, same-parked, none-parked);
          few = λ l. omega (arith, same-parked);
        },
      )
  room-made (Filled e c₀) r h e₀ c =
      let w = answered-count h e₀ in
      let f = some-from (λ (m : Made). m.moves) (vacate s.yard s.bays x p) w.1 in
      let m = f.0 in
      let parked : m.parked ≡ parking s.yard e.0 = vacate-parks s.yard s.bays x p m f.1 ∙ rw (← h.fills) refl in
      let same : c.0 ≡ r = let z = c.1 in cc in
      let k : Played m.moves n p p' standing' empty' out 0 out' r.crossings = rw f.2 w.2 in
      let filling = rw same at c.3 in
      let some-crossed = h.some_moved e.0 refl w.0 w.1 in (
        m,
        f.1,
        record {
          moved = k.moved;
          placed = k.placed;
          stored = k.stored;
          counted = k.counted;
          parks = rw parked (as-far-same _ _ filling);
          few = λ l. few-filled _ _ _ _ filling (parks-few s.yard e.0) w.2.counted some-crossed;
        },
      )
  room-made NotVacated r h e c = never-some r.crossings e

  not_made : (v : Vacated) → Vacates s x p standing empty out p' standing' empty' out' v → Counts s.yard v None → vacate s.yard s.bays x p ≡ none
  not_made Empty h c = never (cc)
  not_made (Filled e m) h c = let z = c.1 in never (cc)
  not_made NotVacated h c = none_from (λ (m : Made). m.moves) _ (answered-failed h)

  pub room-acts : (v : Vacated) (r : Tried) → Vacates s x p standing empty out p' standing' empty' out' v → Counts s.yard v r → Acts (vacate s.yard s.bays x p) n p standing empty out nothing p' standing' empty' out' r
  room-acts v None h c = let z = not_made v h c in acts-none z (h.acted.fails (rw z))
  room-acts v (Some r) h c = let w = room-made v r h (counted-after s.yard v r c) c in acts-some w.1 w.2

  pub room_within : n ≤ span → (v : Vacated) (r : Tried) → Vacates s x p standing empty out p' standing' empty' out' v → Counts s.yard v r → Within nothing span r
  room_within most v None h c = tt
  room_within most v (Some r) h c =
      let w = answered-count h (counted-after s.yard v r c) in
      omega (arith, most, w.2.counted, h.short w.0 w.1)

  -- the bay that was filled is among the n
  pub filled_in : (v : Vacated) → Apart p → x < n → Vacates s x p standing empty out p' standing' empty' out' v → FilledIn n v
  filled_in Empty apart hx h = tt
  filled_in (Filled e m) apart hx h =
      let hb : n ≡ s.yard.bays = sym s.joins.bays in
      let i : In x (up_to s.yard.bays) = in_count 0 s.yard.bays x (omega arith) (omega arith) in
      let z = count-high 0 s.yard.bays e.0 (filled-inside s.yard s.bays x e.0 p apart i (sym h.fills)) in
      omega arith
  filled_in NotVacated apart hx h = tt
