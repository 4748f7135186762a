-- The attempts with those of the others below x failed.
use Rattle.std.proofs.Common.{◌≡◌, true, ◌<◌, ◌≤◌, ◌-◌, length}
use Rattle.words.specs.Sets.{mem, span}
use Rattle.acting.specs.Acting.{Tabled}
use Rattle.attempts.specs.Asking.{Arrived, way_with}
use Rattle.either_way.specs.Either.{is_second}
use Rattle.either_way.proofs.Either.{Failing}
use Rattle.either_way.proofs.first_kept.Given as goal

abbrev pub invariant-loop-x : goal.invariant-loop-x
invariant-loop-x l = record {
  upto : l.x ≤ span;
  hit : l.x < span → mem l.others l.x ≡ true;
  failing : (t : Tabled (length l.standing) l.table) → Arrived l.one.lead l.one.behind.0 l.placement
      → Failing (way_with (is_second l.way) t.yard l.one) l.others l.x l.placement;
}

abbrev pub decreases-loop-x : goal.decreases-loop-x
decreases-loop-x l = span - l.x
