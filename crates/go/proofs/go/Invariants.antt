-- The steps so far, and then the rest of the path from here, are the whole; r stands where its last step led.
use Rattle.std.proofs.Common.{List, ℕ, ◌*◌, ◌≤◌, length, get_or, drop}
use Rattle.moving.specs.Bounds.{swap_most}
use Rattle.acting.specs.Acting.{Tabled}
use Rattle.step.specs.Asking.{BaysBelow}
use Rattle.go.specs.Going.{Linked}
use Rattle.go.proofs.Going.{Going}
use Rattle.go.proofs.go.Given as goal

abbrev pub invariant-loop-bay : goal.invariant-loop-bay
invariant-loop-bay l = record {
  few : l.count.crossings ≤ swap_most * l.bay-index;
  linked : Linked (length l.initial.standing) l.table (get_or l.placement l.r.0 0) (drop l.bay-index l.ahead);
  goes : (t : Tabled (length l.initial.standing) l.table) (goals : List ℕ)
      → Going t.yard goals l.r.0 l.ahead (length l.initial.standing) l.initial.placement l.initial.out l.bay-index l.placement l.standing l.empty l.out l.count;
  below : BaysBelow l.r.0 l.placement l.settled;
}
