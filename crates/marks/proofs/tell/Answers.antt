use Rattle.std.proofs.Common.{sym, ◌∙◌}
use lib.ListN.{length-map}
use Rattle.paper.specs.Yard.{unpack, crossings}
use Rattle.paper.proofs.Reporting.{marks-long}
use Rattle.marks.proofs.Telling.{told-mismarked, told-on}
use Rattle.marks.proofs.tell.Goals as goal

pub returns-then-bad_marks : goal.returns-then-bad_marks
returns-then-bad_marks c =
    told-mismarked (crossings c.args.plan.now) c.args.marks.now c.args.name (sym c.bad_marks.ensures ∙ c.if-bad_marks.true)

pub tell_in_order-requires : goal.tell_in_order-requires
tell_in_order-requires c =
    marks-long (crossings c.args.plan.now) c.args.marks.now (sym c.bad_marks.ensures ∙ c.if-bad_marks.false) ∙ length-map c.args.plan.now unpack

pub returns : goal.returns
returns c =
    c.tell_in_order.ensures
    ∙ sym (told-on (crossings c.args.plan.now) c.args.marks.now c.args.name (sym c.bad_marks.ensures ∙ c.if-bad_marks.false))
