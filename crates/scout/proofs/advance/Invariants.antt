-- The pair was brought along the bays that it has entered.
use Rattle.std.proofs.Common.{length, take}
use Rattle.acting.specs.Acting.{Tabled}
use Rattle.scout.specs.Scouting.{Gone}
use Rattle.scout.proofs.advance.Given as goal

abbrev pub invariant-loop-i : goal.invariant-loop-i
invariant-loop-i l = (t : Tabled (length l.initial.standing) l.table) → Gone t.yard l.couple (length l.initial.standing) (take l.i l.way) l.initial.placement l.placement l.standing l.empty
