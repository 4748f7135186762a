-- A step is a vacate and a crossing, or where the vacate fails a swap: a carrier stands at a bay that could not be vacated, and it is
-- beside r, which the swap asks.
-- Assumes nothing.
use Rattle.std.proofs.Common.{Some}
use mathlib.Core.Path.{◌≡◌, sym, ◌∙◌, refl}
use mathlib.Core.Bool.{true, false}
use mathlib.Core.List.{List, [], ◌∷◌}
use mathlib.Core.Option.{none, some}
use Prim.Native.Nat.{ℕ, ◌≤◌, ◌<◌}
use native.Mathlib.Omega.{arith}
use lib.ListN.{length, get_or, take, length-take}
use lib.Dec.{eqb}
use lib.Seq.{get_or-take}
use borrow.Author.Tests.{not-true}
use Rattle.paper.specs.Basics.{◌or◌, elem, In, Out}
use Rattle.paper.specs.Procedure.{Made, only, ◌then◌, cross, vacate, holding, swap, step}
use Rattle.paper.specs.Yard.{Bay, Carrier, Placement, bay_of, carrier_at, crossing, after, joined}
use Rattle.paper.proofs.Members.{In-head, In-tail, in_count}
use Rattle.paper.proofs.Playing.{Sound, after-length, place_of-bay, place_of-there, bay-in}
use Rattle.paper.proofs.Tests.{by_cases, not-both, never-some, or_right}
use Rattle.paper.proofs.Vacating.{Vacated, vacate-vacates, vacate-empty}
use Rattle.words.specs.Sets.{mem, span, mem_row, Kept}
use Rattle.words.proofs.Sets.{row_zero, or-false}
use Rattle.swap.specs.FromBelow.{Beside}
use Rattle.rings.specs.Search.{Shown}
use Rattle.moving.specs.Placed.{Placed}
use Rattle.moving.proofs.Playing.{carrier-is, carrier-none}
use Rattle.acting.specs.Acting.{Tabled, Tallied, Proceeds}
use Rattle.acting.specs.declared.Tally.{Tally}
use Rattle.acting.proofs.Acting.{tallied-none, tallied-then, proceeds-some}
use Rattle.step.specs.Asking.{Loopless, BaysBelow, CanStep}
use Rattle.acting.specs.Tried.{Tried}

pub sound-of : {n : ℕ} {table : List ℕ} (t : Tabled n table) → n ≤ span → Loopless n table → Sound t.yard
sound-of {n} t most l = record {
  inside = λ a b j. in_count 0 t.yard.bays b (omega arith) (omega (arith, (t.joins.inside a b j).1, t.joins.bays));
  no_loop = λ a j. let h = (t.joins.inside a a j).0 in not-both (t.joins.same a a h (omega arith) ∙ j) (l.none a h);
}

-- ## What is held

-- a copy of the finished carriers' bays, with r's own
pub own_held : {finished : ℕ} {p settled h₀ h₁ : List ℕ} (held : List ℕ) (r : Carrier) → BaysBelow finished p settled → Kept h₀ 0 settled h₁
    → ((y : ℕ) → mem held y ≡ mem h₁ y or eqb y (bay_of p r)) → (b : ℕ) → b < span → mem held b ≡ elem b (holding finished r p)
unfolding elem
own_held {finished} {p} {h₁ = h₁} held r s k f b h =
    let copied : mem h₁ b ≡ elem b (take finished p) = sym (row_zero h₁ b) ∙ k.row b h ∙ s.bays b in
    f b ∙ rw copied (by_cases (eqb b (bay_of p r)) (λ e. rw e (or_right (elem b (take finished p)) true refl)) (λ e. rw e (or-false (elem b (take finished p)) false refl)))

abbrev pub held_by : {n finished : ℕ} {table p settled h₀ h₁ held : List ℕ} (t : Tabled n table) (r : Carrier) → BaysBelow finished p settled → Kept h₀ 0 settled h₁
    → ((y : ℕ) → mem held y ≡ mem h₁ y or eqb y (bay_of p r)) → Shown n table held
held_by {finished = finished} {p = p} {held = held} t r s k f = record { yard = t.yard; bays = holding finished r p; joins = t.joins; holds = own_held held r s k f }

-- ## The step

module _ {n : ℕ} {table : List ℕ} (t : Tabled n table) (most : n ≤ span) {finished : ℕ} {r : Carrier} {w : Bay} {p : Placement} (can : CanStep n table finished r w p)
    {standing empty : List ℕ} (k : Placed n p standing empty) where
  pub railed : joined t.yard (bay_of p r) w ≡ true
  railed = sym (t.joins.same (bay_of p r) w (k.inside r can.carrier_there) (omega (arith, can.bay_there))) ∙ can.rail

  -- where vacating fails a carrier stands at w
  pub met : vacate t.yard (holding finished r p) w p ≡ none → In w p
  met e = by_cases (elem w p) (λ i. i) (λ o. never-some (only []) (sym e ∙ vacate-empty t.yard (holding finished r p) w p o))

  pub met-carrier : vacate t.yard (holding finished r p) w p ≡ none → (get_or standing w 0 < length p) × (bay_of p (get_or standing w 0) ≡ w)
  met-carrier e = rw (k.stands w can.bay_there) (place_of-there p w (met e), place_of-bay p w (met e))

  pub met-other : vacate t.yard (holding finished r p) w p ≡ none → get_or standing w 0 ≡ r → ⊥
  met-other e q =
      let at-w : bay_of p r ≡ w = rw q at (met-carrier e).1 in
      not-both (rw at-w at can.rail) (can.loopless.none w can.bay_there)

  pub met-beside : vacate t.yard (holding finished r p) w p ≡ none → Beside t.yard r (get_or standing w 0) p
  met-beside e = record { sound = sound-of t most can.loopless; beside = rw (met-carrier e).1 railed }

  -- where a finished carrier stands at w it is held
  pub held-fails : get_or standing w 0 < finished → vacate t.yard (holding finished r p) w p ≡ none
  unfolding vacate
  held-fails low =
      let c : carrier_at p w < finished = rw (k.stands w can.bay_there) at low in
      let i : In w p = by_cases (elem w p) (λ e. e) (λ o. absurd (omega (arith, carrier-none p w o))) in
      let h : In w (take finished p) = rw (get_or-take finished p (carrier_at p w) 0 c ∙ place_of-bay p w i) at (bay-in (take finished p) (carrier_at p w) (rw length-take (omega (arith, c, can.finished_there)))) in
      rw (i, In-tail w (bay_of p r) (take finished p) h)

  -- by a swap
  pub stepped-swap : {out : List ℕ} {at : Tally} {p' standing' empty' out' : List ℕ} {z : Tried} → vacate t.yard (holding finished r p) w p ≡ none
      → Proceeds (swap t.yard r (get_or standing w 0) p) n p out at p' standing' empty' out' z → Proceeds (step t.yard finished r w p) n p out at p' standing' empty' out' z
  unfolding step ◌then◌
  stepped-swap e a = rw (e, ← (k.stands w can.bay_there)) a

  -- by vacating and crossing
  module _ (vs : Made) (made : vacate t.yard (holding finished r p) w p ≡ some vs) where
    vac : Vacated t.yard (holding finished r p) w p vs.moves
    vac = vacate-vacates t.yard (holding finished r p) w p vs k.apart (in_count 0 t.yard.bays w (omega arith) (omega (arith, t.joins.bays, can.bay_there))) made

    pub stays : bay_of (after p vs.moves) r ≡ bay_of p r
    stays = vac.keeps r can.carrier_there (In-head (bay_of p r) (take finished p))

    pub r-there : (q : Placement) → q ≡ after p vs.moves → In (bay_of q r) q
    r-there q e = bay-in q r (rw (e, after-length) can.carrier_there)

    pub r-inside : (q : Placement) → q ≡ after p vs.moves → r < length q
    r-inside q e = rw (e, after-length) can.carrier_there

    pub w-empty : (q : Placement) → q ≡ after p vs.moves → Out w q
    w-empty q e = rw e vac.empties

    pub stepped-cross : {out out₁ : List ℕ} {at a b : Tally} {q standing₁ empty₁ p' standing' empty' out' : List ℕ} → Tallied vs n p q standing₁ empty₁ out at out₁ a
        → Tallied (only (crossing (carrier_at q (bay_of q r)) (bay_of q r) w ∷ [])) n q p' standing' empty' out₁ a out' b → Proceeds (step t.yard finished r w p) n p out at p' standing' empty' out' (Some b)
    unfolding step ◌then◌ cross
    stepped-cross {q = q} x y =
        let same : carrier_at q (bay_of q r) ≡ r = carrier-is q (bay_of q r) r x.placed.apart (rw (x.moved, after-length) can.carrier_there) refl in
        let y' = rw same at y in
        proceeds-some (rw (made, ← x.moved)) (tallied-then x y')

  -- by crossing alone, where w is empty
  pub free : true ≡ mem empty w → Out w p
  free h = not-true (elem w p) (sym (k.empties w can.bay_there) ∙ sym h)

  pub stepped-free : {out : List ℕ} {at b : Tally} {p' standing' empty' out' : List ℕ} → true ≡ mem empty w → Tallied (only (crossing (carrier_at p (bay_of p r)) (bay_of p r) w ∷ [])) n p p' standing' empty' out at out' b
      → Proceeds (step t.yard finished r w p) n p out at p' standing' empty' out' (Some b)
  stepped-free {out = out} {at = at} h y = stepped-cross (only []) (vacate-empty t.yard (holding finished r p) w p (free h)) (tallied-none n p standing empty out at k) y
