-- The cost goes where the lines ended.
use Rattle.stores.proofs.Stores.{wrote_then}
use Rattle.timed_print.proofs.Parts.{print-parts}
use Rattle.timed_print.proofs.print.Goals as goal

pub returns : goal.returns
returns c =
    let s = c.args in
    rw (← print-parts s.slots.now s.plan.now) (wrote_then c.lines-end.ensures.0 c.cost.ensures)
