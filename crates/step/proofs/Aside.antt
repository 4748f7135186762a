-- Where an empty bay is beside w, the paper's vacate moves the carrier at w there: it is not held, since only carriers' bays are.
-- Assumes nothing.
use mathlib.Core.Path.{◌≡◌, sym, ap, ◌∙◌}
use mathlib.Core.Bool.{true, false, not}
use mathlib.Core.List.{List, [], ◌∷◌}
use mathlib.Core.Option.{some}
use Prim.Native.Nat.{ℕ, ◌≤◌, ◌<◌}
use native.Mathlib.Omega.{arith}
use lib.ListN.{length, get_or, take, length-take}
use lib.Seq.{get_or-take}
use borrow.Author.Tests.{not-true, not-false}
use Rattle.paper.specs.Basics.{◌and◌, elem, In, Out}
use Rattle.paper.specs.Path.{Free, Rather}
use Rattle.paper.specs.Procedure.{vacate, parking, holding, shift}
use Rattle.paper.specs.Yard.{Bay, Carrier, Placement, bay_of, carrier_at, crossing, is_empty, joined, rails_at}
use Rattle.paper.proofs.Members.{In-cases, take_in, in_count}
use Rattle.paper.proofs.Playing.{place_of-bay, place_of-there, bay-in}
use Rattle.paper.proofs.Tests.{by_cases, not-both, and_left, and_right, and_both}
use Rattle.words.specs.Sets.{mem, span, mem_row}
use Rattle.choice.specs.Taking.{Taken}
use Rattle.choice.proofs.Taking.{rather-paper}
use Rattle.words.proofs.Sets.{row_zero}
use Rattle.moving.specs.Placed.{Placed}
use Rattle.moving.proofs.Playing.{carrier-is}
use Rattle.acting.proofs.FromBelow.{beside-nearest, beside-path}
use Rattle.acting.specs.Acting.{Tabled, Ready}
use Rattle.step.specs.Asking.{AsideAsks}
use Rattle.step.specs.declared.NextStep.{NextStep}

module _ {table p standing empty : List ℕ} (t : Tabled (length standing) table) (ready : Ready table p standing empty) {next : NextStep} {e : Bay}
    (asks : AsideAsks next e table p standing empty) where
  abbrev r : Carrier
  r = next.carrier.0

  abbrev w : Bay
  w = next.to.0

  abbrev finished : ℕ
  finished = next.finished

  -- an empty bay is not held
  unheld : (b : Bay) → Out b p → Out b (holding finished r p)
  unheld b o =
      by_cases (elem b (holding finished r p))
      (λ i. In-cases b (bay_of p r) (take finished p) i (λ q. not-both (rw (← q) at (bay-in p r asks.can.carrier_there)) o) (λ h. not-both (take_in finished p b h) o))
      (λ h. h)

  -- nor is w, where a carrier stands that is neither r nor finished
  w-low : In w (take finished p) → carrier_at p w < finished
  w-low i =
      let c = carrier_at (take finished p) w in
      let h : c < finished = let j = rw length-take at (place_of-there (take finished p) w i) in omega arith in
      let there-c : bay_of p c ≡ w = sym (get_or-take finished p c 0 h) ∙ place_of-bay (take finished p) w i in
      rw (carrier-is p w c ready.placed.apart (omega (arith, h, asks.can.finished_there)) there-c) h

  w-unheld : Out w (holding finished r p)
  w-unheld =
      by_cases (elem w (holding finished r p))
      (λ i. In-cases w (bay_of p r) (take finished p) i
      (λ q. not-both (rw (← q) at asks.can.rail) (asks.can.loopless.none w asks.can.bay_there))
      (λ h. absurd (omega (arith, w-low h, rw (ready.placed.stands w asks.can.bay_there) at asks.unfinished))))
      (λ h. h)

  full-w : is_empty p w ≡ false
  full-w = sym (ready.placed.empties w asks.can.bay_there) ∙ asks.full

  taken : mem_row table w e and mem_row empty 0 e ≡ true
  taken = asks.chosen.hit asks.found

  rail-e : joined t.yard w e ≡ true
  rail-e = sym (t.joins.same w e asks.can.bay_there asks.found) ∙ and_left _ _ taken

  pub inside-e : e < length standing
  inside-e = (t.joins.inside w e rail-e).1

  pub empty-e : Out e p
  empty-e = not-true (elem e p) (sym (ready.placed.empties e inside-e) ∙ sym (row_zero empty e) ∙ and_right _ _ taken)

  pub full-in : In w p
  full-in = not-false (elem w p) full-w

  free_of : (b : Bay) → b < length standing → Out b (holding finished r p) → Free t.yard (holding finished r p) b
  free_of b h o = (in_count 0 t.yard.bays b (omega arith) (rw t.joins.bays (omega (arith, h))), o)

  rather-e : (b : Bay) → joined t.yard w b ≡ true → Free t.yard (holding finished r p) b → Out b p → Rather (rails_at t.yard) e b
  rather-e b j f o =
      let h : b < length standing = (t.joins.inside w b j).1 in
      let passes = and_both (mem_row table w b) (mem_row empty 0 b) (t.joins.same w b asks.can.bay_there (omega (arith, h, ready.most)) ∙ j) (row_zero empty b ∙ ready.placed.empties b h ∙ ap not o) in
      rather-paper t.joins ready.most e b inside-e h (asks.chosen.before asks.found b (omega (arith, h, ready.most)) passes)

  pub made-aside : vacate t.yard (holding finished r p) w p ≡ some (record { moves = crossing (carrier_at p w) w e ∷ []; parked = parking t.yard e })
  unfolding vacate shift
  made-aside =
      let free-w = free_of w asks.can.bay_there w-unheld in
      let free-e = free_of e inside-e (unheld e empty-e) in
      let near = beside-nearest t.yard (holding finished r p) w p e free-w full-in rail-e free-e empty-e rather-e in
      let path = beside-path t.yard (holding finished r p) w p e free-w full-in rail-e free-e empty-e in
      rw (full-w, w-unheld, near, ← path)
