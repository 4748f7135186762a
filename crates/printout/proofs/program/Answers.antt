-- `printout::program` meets its contract: every print fits into the room, so what is handed over is all of it.
use Rattle.std.proofs.Common.{sym, arith, length-take-le, rules}
use Rattle.handing.proofs.Fitting.{hands-part}
use Rattle.printout.proofs.program.Goals as goal

-- src/lib.rt:39:19
pub slice_bounds-text-end : goal.slice_bounds-text-end
slice_bounds-text-end c = sym (length-take-le _ _ (search rules))

-- src/lib.rt:27:1
pub returns : goal.returns
returns c =
    let print = c.print-n in
    hands-part print.ensures.0 (omega (arith, print.ensures.1)) c.text.ensures
