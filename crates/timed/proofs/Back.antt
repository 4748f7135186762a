-- What is printed of a plan, by either edition, reads back as its crossings, each with its slot: both editions count from 1.
use mathlib.Core.Path.{◌≡◌}
use mathlib.Core.List.{List}
use mathlib.Core.Option.{some}
use Prim.Native.Nat.{ℕ}
use lib.Dec.{eqb}
use Rattle.paper.specs.Yard.{Crossing}
use Rattle.paper.specs.Answers.{accepted}
use Rattle.paper.specs.Text.{lines}
use Rattle.paper.proofs.Tests.{by_cases}
use Rattle.trains.specs.Slots.{with_slots}
use Rattle.trains.specs.Print.{read_timed}
use Rattle.trains.proofs.Printing.{FromOne, timed-back, first-from-one, trains-from-one}
use Rattle.editions.specs.Editions.{slots_by}
use Rattle.timed_handing.specs.Timed.{printed_timed}

by-from-one : (e : ℕ) (xs : List Crossing) → FromOne (slots_by e xs)
unfolding slots_by
by-from-one e xs = by_cases (eqb e 2) (λ h. rw h (trains-from-one xs)) (λ h. rw h (first-from-one xs))

pub printed-back : (e : ℕ) (xs : List Crossing) → read_timed (lines (printed_timed e (accepted xs))) ≡ some (with_slots (slots_by e xs) xs)
unfolding printed_timed
printed-back e xs = timed-back (slots_by e xs) xs (by-from-one e xs)
