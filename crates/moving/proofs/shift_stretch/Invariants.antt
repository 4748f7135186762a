use Rattle.std.proofs.Common.{drop, length}
use Rattle.moving.proofs.Shifting.{Shifting}
use Rattle.moving.proofs.shift_stretch.Given as goal

abbrev pub invariant-loop-i : goal.invariant-loop-i
invariant-loop-i l =
    let first = l.initial in
    Shifting (length first.standing) first.placement (drop l.i l.path) l.placement l.standing first.out l.at l.out l.count
