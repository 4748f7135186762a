-- The ring as one sees it from a bay u: how far on each other bay is, and which bay comes so far on. Until the first bay that is held
-- one walks on freely.
use mathlib.Core.Path.{◌≡◌, sym, ◌∙◌, ap}
use mathlib.Core.Bool.{Bool, true, false}
use mathlib.Core.Logic.{◌⊎◌, inl, inr, ⊎_elim}
use mathlib.Core.List.{List}
use Prim.Native.Nat.{ℕ, zero, suc, ◌<◌, ◌≤◌}
use native.Mathlib.Omega.{arith}
use lib.Dec.{eqb}
use borrow.Author.Tests.{eqb-true, eqb-false}
use Rattle.paper.specs.Basics.{Out}
use Rattle.paper.specs.Yard.{Bay, Yard, joined}
use Rattle.paper.proofs.Tests.{by_cases}
use Rattle.paper.proofs.Members.{in_count}
use Rattle.paper.proofs.Rings.{Walk, here, on}
use Rattle.carousels.specs.Round.{Next, Round}
use Rattle.carousels.specs.Order.{ahead, further}
use Rattle.carousels.proofs.Circling.{ahead-low, ahead-self, ahead-same, ahead-some, to-next, further-low, further-none, ahead-further, further-ahead, further-next}

-- the lowest number from 1 to d that passes
pub record Met (q : ℕ → Bool) (d : ℕ) : Type 0 where
  pub at : ℕ
  pub some : 0 < at
  pub within : at ≤ d
  pub hit : q at ≡ true
  pub before : (j : ℕ) → 0 < j → j < at → q j ≡ false

pub first-met : (q : ℕ → Bool) (d : ℕ) → ((j : ℕ) → 0 < j → j ≤ d → q j ≡ false) ⊎ Met q d
first-met q zero = inl (λ j a b. absurd (omega arith))
first-met q (suc d) =
    ⊎_elim
    (λ f. by_cases (q (suc d))
    (λ e. inr (record { at = suc d; some = omega arith; within = omega arith; hit = e; before = λ j a b. f j a (omega arith) }))
    (λ e. inl (λ j a b. by_cases (eqb j (suc d))
    (λ z. rw (eqb-true j (suc d) z) e)
    (λ z. let ne = eqb-false j (suc d) z in f j a (omega arith)))))
    (λ m. inr (record { at = m.at; some = m.some; within = omega (arith, m.within); hit = m.hit; before = m.before }))
    (first-met q d)

-- bays at the same place are one
pub one_place : (Y : Yard) (o : Round Y) (a b : Bay) → a < Y.bays → b < Y.bays → o.place a ≡ o.place b → a ≡ b
one_place Y o a b ha hb e = sym (o.bay_place a ha) ∙ ap o.bay e ∙ o.bay_place b hb

module _ (Y : Yard) (o : Round Y) (u : Bay) where
  -- how far on from u a bay is
  abbrev pub far : Bay → ℕ
  far b = ahead Y.bays (o.place u) (o.place b)

  -- the bay that comes d places on from u
  abbrev pub on_bay : ℕ → Bay
  on_bay d = o.bay (further Y.bays (o.place u) d)

  module _ (hu : u < Y.bays) where
    pub far-low : (b : Bay) → b < Y.bays → far b < Y.bays
    far-low b h = ahead-low Y.bays (o.place u) (o.place b) (o.place_low u hu) (o.place_low b h)

    pub far-own : far u ≡ 0
    far-own = ahead-self Y.bays (o.place u) (o.place_low u hu)

    pub far_some : (b : Bay) → b < Y.bays → (b ≡ u → ⊥) → 0 < far b
    far_some b h ne =
        ahead-some Y.bays (o.place u) (o.place b) (o.place_low u hu) (o.place_low b h) (λ e. ne (one_place Y o b u h hu (sym e)))

    pub far-same : (b c : Bay) → b < Y.bays → c < Y.bays → far b ≡ far c → b ≡ c
    far-same b c hb hc e =
        one_place Y o b c hb hc
        (ahead-same Y.bays (o.place u) (o.place b) (o.place c) (o.place_low u hu) (o.place_low b hb) (o.place_low c hc) e)

    pub far-next : (a b : Bay) → a < Y.bays → b < Y.bays → Next Y.bays (o.place a) (o.place b) → (b ≡ u → ⊥) → far b ≡ suc (far a)
    far-next a b ha hb k ne =
        to-next Y.bays (o.place u) (o.place a) (o.place b) (o.place_low u hu) (o.place_low a ha) (o.place_low b hb) k
        (λ e. ne (one_place Y o b u hb hu (sym e)))

    pub on-low : (d : ℕ) → d < Y.bays → on_bay d < Y.bays
    on-low d h = o.bay_low (further Y.bays (o.place u) d) (further-low Y.bays (o.place u) d (o.place_low u hu) h)

    place-on : (d : ℕ) → d < Y.bays → o.place (on_bay d) ≡ further Y.bays (o.place u) d
    place-on d h = o.place_bay (further Y.bays (o.place u) d) (further-low Y.bays (o.place u) d (o.place_low u hu) h)

    pub far-on : (d : ℕ) → d < Y.bays → far (on_bay d) ≡ d
    far-on d h = ap (ahead Y.bays (o.place u)) (place-on d h) ∙ ahead-further Y.bays (o.place u) d (o.place_low u hu) h

    pub on-far : (b : Bay) → b < Y.bays → on_bay (far b) ≡ b
    on-far b h = ap o.bay (further-ahead Y.bays (o.place u) (o.place b) (o.place_low u hu) (o.place_low b h)) ∙ o.bay_place b h

    pub on_none : on_bay 0 ≡ u
    on_none = ap o.bay (further-none Y.bays (o.place u) (o.place_low u hu)) ∙ o.bay_place u hu

    rail-on : (d : ℕ) → suc d < Y.bays → joined Y (on_bay d) (on_bay (suc d)) ≡ true
    rail-on d h =
        o.joins (on_bay d) (on_bay (suc d)) (on-low d (omega arith)) (on-low (suc d) h)
        (rw (place-on d (omega arith), place-on (suc d) h) (further-next Y.bays (o.place u) d (o.place_low u hu) h))

    -- where no bay on the way is held, one walks on
    pub walk-on : (held : List Bay) (a e : ℕ) → a ≤ e → e < Y.bays → ((j : ℕ) → a < j → j ≤ e → Out (on_bay j) held)
        → (d : ℕ) × Walk Y held (on_bay a) d (on_bay e)
    walk-on held a zero h k f = let z : a ≡ 0 = omega arith in (0, rw z here)
    walk-on held a (suc e) h k f =
        by_cases (eqb a (suc e))
        (λ z. (0, rw (eqb-true a (suc e) z) here))
        (λ z.
        let ne = eqb-false a (suc e) z in
        let r = walk-on held a e (omega arith) (omega arith) (λ j b c. f j b (omega arith)) in
        let l = on-low (suc e) k in
        (suc r.0, on r.1 (rail-on e k) (in_count 0 Y.bays (on_bay (suc e)) (omega arith) (omega arith), f (suc e) (omega arith) (omega arith))))
