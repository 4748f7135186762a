-- The turns so far, and then those of the rest, are the whole procedure. Who had a turn is at home.
use Rattle.std.proofs.Common.{◌*◌, ◌≤◌, length}
use Rattle.moving.specs.Bounds.{carrier_most}
use Rattle.acting.specs.Acting.{Tabled}
use Rattle.carry.specs.FromBelow.{BaysBelow, HomeBelow}
use Rattle.carry_all.proofs.Serving.{Served}
use Rattle.carry_all.proofs.carry_all.Given as goal

abbrev pub invariant-loop-r : goal.invariant-loop-r
invariant-loop-r l = record {
  few : l.count.crossings ≤ carrier_most * l.r;
  home : HomeBelow l.r l.goals l.placement;
  served : (t : Tabled (length l.initial.standing) l.table) → Served t.yard l.goals (length l.initial.standing) l.initial.placement l.initial.out l.r l.placement l.standing l.empty l.out l.count;
  below : BaysBelow l.r l.placement l.settled;
}
