-- `agreeing::agree` meets its contract: the record first, then the lines, each against what is worked out afresh.
use Rattle.std.proofs.Common.{sym, ◌∙◌, ap}
use Rattle.bills.specs.Answering.{same_record}
use Rattle.agreeing.proofs.Comparing.{fresh-few, agree-not, agree-lines}
use Rattle.agreeing.proofs.agree.Goals as goal

pub returns-then-not-same_record : goal.returns-then-not-same_record
returns-then-not-same_record c =
    let w = c.work_out-fresh.ensures in
    (agree-not c.args.start.now c.args.plan.now c.args.marks.now c.requires c.args.running c.args.held (ap (same_record c.args.running) (sym w.is_record) ∙ sym c.same_record.ensures ∙ c.if-not-same_record.true), w.is_slot)

pub same_lines-requires : goal.same_lines-requires
same_lines-requires c =
    fresh-few _ _ _ c.requires c.args.running c.args.held _ c.work_out-fresh.ensures.is_held

pub returns : goal.returns
returns c =
    let w = c.work_out-fresh in
    (agree-lines c.args.start.now c.args.plan.now c.args.marks.now c.requires c.args.running c.args.held (ap (same_record c.args.running) (sym w.ensures.is_record) ∙ sym c.same_record.ensures ∙ c.if-not-same_record.false) w.result.held w.ensures.is_held c.same_lines.result c.same_lines.ensures, w.ensures.is_slot)
