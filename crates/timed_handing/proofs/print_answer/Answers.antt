-- `timed_handing::print_answer` meets its contract: the plan's part of the list is slotted and printed, or the refusal is.
use Rattle.std.proofs.Common.{sym, ◌∙◌, arith, length, take, length-take-le, rules}
use Rattle.timed_handing.proofs.Printing.{plan-prints, refusal-prints, slots-stand}
use Rattle.timed_handing.proofs.print_answer.Goals as goal

pub slice_bounds-pass-end : goal.slice_bounds-pass-end
slice_bounds-pass-end c = sym (length-take-le _ _ (c.requires.within.inside _ c.in-Ok.is))

pub pass-requires : goal.pass-requires
pass-requires c =
    let inside = c.requires.within.inside _ c.in-Ok.is in let n = length-take-le _ c.args.plan.now inside in let sized = c.requires.sized in (omega arith, omega arith, c.requires.fits _ c.in-Ok.is)

pub slice_bounds-print-end : goal.slice_bounds-print-end
slice_bounds-print-end c = sym (length-take-le _ _ (c.requires.within.inside _ c.in-Ok.is))

pub slice_bounds-slots-end : goal.slice_bounds-slots-end
slice_bounds-slots-end c = let inside = c.requires.within.inside _ c.in-Ok.is in let sized = c.requires.sized in omega arith

pub slice_bounds-print-end-in-Ok : goal.slice_bounds-print-end-in-Ok
slice_bounds-print-end-in-Ok c = let inside = c.requires.within.inside _ c.in-Ok.is in let sized = c.requires.sized in sym (length-take-le _ _ (omega arith))

pub print-requires : goal.print-requires
print-requires c =
    let inside = c.requires.within.inside _ c.in-Ok.is in let sized = c.requires.sized in let n = length-take-le _ c.args.plan.now inside in (omega arith, length-take-le _ _ (omega arith) ∙ sym n)

pub returns-in-Ok : goal.returns-in-Ok
returns-in-Ok c =
    let q = c.in-Ok.is in plan-prints c.args.edition _ q (slots-stand c.args.edition c.args.plan.now _ _ _ (c.requires.within.inside _ q) c.pass.ensures) c.print.ensures

pub returns-in-Err : goal.returns-in-Err
returns-in-Err c = refusal-prints c.args.edition _ c.in-Err.is c.refusal.ensures.0
