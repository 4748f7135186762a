-- `agreeing::work_out` meets its contract: the starts over zeros, the pass, and the lines listed, as proofs/Worked has it.
use Rattle.std.proofs.Common.{refl, arith}
use Rattle.agreeing.proofs.Standing.{fits_all}
use Rattle.agreeing.proofs.Worked.{placed-long, worked-out}
use Rattle.agreeing.proofs.work_out.Goals as goal

pub copy-requires : goal.copy-requires
copy-requires c = omega (arith, c.requires.few)

pub bill_done-slots-requires : goal.bill_done-slots-requires
bill_done-slots-requires c =
    let f = c.requires in
    (f.even, f.short, fits_all _ _ _ f, placed-long c.args.start.now c.args.plan.now c.args.marks.now f _ c.copy.ensures, refl, refl)

pub count_done-done-requires : goal.count_done-done-requires
count_done-done-requires c =
    let f = c.requires in (f.even, f.short)

pub list_lines-held-requires : goal.list_lines-held-requires
list_lines-held-requires c =
    omega (arith, c.requires.few)

pub returns : goal.returns
returns c =
    let bill-done = c.bill_done-slots in
    let copied = c.copy in
    worked-out c.args.start.now c.args.plan.now c.args.marks.now c.requires _ copied.ensures c.args.name _ _ _ bill-done.result bill-done.ensures _ c.count_done-done.ensures _ c.list_lines-held.ensures
