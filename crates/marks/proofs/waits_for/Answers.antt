use Rattle.std.proofs.Common.{◌∙◌, ap, not}
use borrow.Author.Tests.{eq-eqb}
use Rattle.paper.specs.Yard.{crossings}
use Rattle.paper.specs.Dependence.{depend}
use Rattle.docket.specs.Reading.{crossing_of}
use Rattle.marks.proofs.Telling.{waits-done, waits-undone}
use Rattle.marks.proofs.waits_for.Goals as goal

pub returns-then-marks-e-ne1 : goal.returns-then-marks-e-ne1
returns-then-marks-e-ne1 c =
    let a = c.args in
    c.depends.ensures ∙ ap (depend (crossing_of a.x)) c.crossing_at.ensures
    ∙ waits-undone (crossings a.plan.now) a.marks.now (crossing_of a.x) a.e c.if-marks-e-ne1.true

pub returns-else-marks-e-ne1 : goal.returns-else-marks-e-ne1
returns-else-marks-e-ne1 c =
    let a = c.args in
    ap not (eq-eqb _ _ c.if-marks-e-ne1.false) ∙ waits-done (crossings a.plan.now) a.marks.now (crossing_of a.x) a.e c.if-marks-e-ne1.false
