-- What is brought so far, and then the rest of the path from here, is the whole bring.
use Rattle.std.proofs.Common.{◌*◌, ◌≤◌, length}
use Rattle.moving.specs.Bounds.{entry_most}
use Rattle.acting.specs.Acting.{Tabled}
use Rattle.bring.proofs.Bringing.{Bringing}
use Rattle.bring.proofs.bring.Given as goal

abbrev pub invariant-loop-bay : goal.invariant-loop-bay
invariant-loop-bay l = record {
  few : l.count.crossings ≤ entry_most * l.bay-index;
  brings : (t : Tabled (length l.initial.standing) l.table)
      → Bringing t.yard l.couple.leader.0 l.couple.follower.0 l.path (length l.initial.standing) l.initial.placement l.initial.out l.bay-index l.placement l.standing l.empty l.out l.count;
}
