-- What is said of the placement, way out by way out: the check's refusal, the marks', the room's; and once they have passed, the placement.
use Rattle.std.proofs.Common.{Err, Ok}
use mathlib.Core.Path.{◌≡◌, sym, ◌∙◌, ap}
use mathlib.Core.Bool.{true, false}
use mathlib.Core.List.{List, ◌++◌}
use mathlib.Core.Option.{none, some}
use Prim.Native.Nat.{ℕ, ◌+◌, ◌<◌, ◌≤◌}
use native.Mathlib.Omega.{arith}
use borrow.Author.Tests.{lt-ltb, le-ltb}
use lib.ListN.{length, get_or, drop, length-map, length-append}
use Rattle.paper.specs.Limits.{most_bays}
use Rattle.paper.specs.Yard.{Bay, crossings, named, after, unpack}
use Rattle.paper.specs.Order.{Order}
use Rattle.paper.specs.Docket.{bad_marks}
use Rattle.paper.specs.Dependence.{done_of, placement_by}
use Rattle.paper.specs.OnePass.{Fits}
use Rattle.paper.specs.Answers.{check}
use Rattle.paper.proofs.Checking.{check-passed}
use Rattle.laws.proofs.Handing.{check-fits}
use Rattle.paper.proofs.Packing.{named-is}
use Rattle.paper.proofs.Reporting.{marks-long}
use Rattle.bills.proofs.Stepping.{carrier_there}
use Rattle.docket.specs.Reading.{refusal_of}
use Rattle.docket.specs.declared.Refusal.{Refusal}
use Rattle.docket.specs.declared.Refusal.TheVariants.{Mismarked, Room}
use Rattle.placement.specs.Standing.{refusal, standing, PlacementSays}
use Rattle.placement.proofs.Behind.{after-behind}

module _ (o : Order) (plan marks : List ℕ) (lent : List Bay) where
  refused : (r : Refusal) → refusal o plan marks (length lent) ≡ some (refusal_of r)
      → PlacementSays o plan marks lent (Err r) lent
  unfolding standing
  refused r e = record { answers = rw e; leaves = rw e }

  pub says-refused : (r : Refusal) → some (refusal_of r) ≡ check o plan → PlacementSays o plan marks lent (Err r) lent
  unfolding refusal
  says-refused r h = refused r (rw (← h))

  module _ (passes : none ≡ check o plan) where
    pub fits : Fits most_bays most_bays plan
    fits = check-fits o plan (sym passes)

    pub says-mismarked : bad_marks (crossings plan) marks ≡ true → PlacementSays o plan marks lent (Err Mismarked) lent
    unfolding refusal
    says-mismarked b = refused Mismarked (rw (← passes, b))

    module _ (b : bad_marks (crossings plan) marks ≡ false) where
      pub says-room : length lent < length o.starts → PlacementSays o plan marks lent (Err (Room (length o.starts))) lent
      unfolding refusal
      says-room h = refused (Room (length o.starts)) (rw (← passes, b, lt-ltb (length lent) (length o.starts) h))

      pub as_many : length marks ≡ length plan
      as_many = marks-long (crossings plan) marks b ∙ length-map plan unpack

      there : (i : ℕ) → i < length (crossings plan) → (named (crossings plan) i).carrier < length o.starts
      there i h = carrier_there _ o.starts (crossings plan) i (check-passed o plan (sym passes)).lawful h

      -- each crossing's carrier has its place once the start is laid out
      pub all_there : (at : List Bay) → at ≡ o.starts ++ drop (length o.starts) lent → Fits (length at) most_bays plan
      all_there at laid i l =
          let low : (unpack (get_or plan i 0)).carrier < length o.starts = rw (named-is plan i) at (there i (rw length-map l)) in
          let long : length at ≡ length o.starts + length (drop (length o.starts) lent) = ap length laid ∙ length-append o.starts (drop (length o.starts) lent) in
          (omega (arith, low, long), (fits i l).1, (fits i l).2)

      pub says-placed : length o.starts ≤ length lent → (at at' : List Bay) → at ≡ o.starts ++ drop (length o.starts) lent
          → at' ≡ after at (done_of (crossings plan) marks) → PlacementSays o plan marks lent (Ok (length o.starts)) at'
      unfolding standing refusal
      says-placed h at at' laid moved =
          let room-left = le-ltb (length lent) (length o.starts) h in
          let there-then : at' ≡ placement_by o.starts (crossings plan) marks ++ drop (length o.starts) lent =
          moved ∙ ap (λ q. after q (done_of (crossings plan) marks)) laid ∙ after-behind o.starts (drop (length o.starts) lent) (crossings plan) marks there in
          record { answers = rw (← passes, b, room-left); leaves = rw (← passes, b, room-left) there-then }
