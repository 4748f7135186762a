-- `settling::settle` meets its contract: the step where the answer is billed, and nothing where it is not.
use Rattle.std.proofs.Common.{sym, ◌∙◌, ap, rules}
use lib.ListN.{length-map}
use Rattle.paper.specs.Yard.{crossings}
use Rattle.paper.specs.Answers.{accepts, marks_after}
use Rattle.marks.specs.Reading.{report_of}
use Rattle.settling.proofs.Settling.{told_named, told-inside, settle-posted, settle-left}
use Rattle.settling.proofs.settle.Goals as goal

pub mark_accepted-requires : goal.mark_accepted-requires
mark_accepted-requires c =
    λ e. rw c.requires.0.even (rw length-map at (told_named (crossings c.args.plan.now) c.args.marks.now c.args.name (sym c.tell_in_order-answer.ensures ∙ e)))

pub post-requires : goal.post-requires
post-requires c =
    let yes = ap accepts (sym c.tell_in_order-answer.ensures) ∙ sym c.is_billed.ensures ∙ c.if-is_billed.true in
    let inside = rw length-map at (told-inside (crossings c.args.plan.now) c.args.marks.now c.args.name yes) in
    (record { inside = inside; short = c.requires.0.short; fits = c.requires.0.fits; not_all = c.requires.0.not_all; not_full = c.requires.0.not_full c.args.name inside }, c.requires.1)

pub returns-then-is_billed : goal.returns-then-is_billed
returns-then-is_billed c =
    let t = c.tell_in_order-answer in
    settle-posted c.args.plan.now c.args.marks.now c.args.name c.args.running c.args.held c.post.result _
    (c.mark_accepted.ensures ∙ ap (marks_after c.args.marks.now c.args.name) t.ensures)
    (ap accepts (sym t.ensures) ∙ sym c.is_billed.ensures ∙ c.if-is_billed.true) c.post.ensures

pub returns : goal.returns
returns c =
    let t = c.tell_in_order-answer in
    let u = c.unchanged.ensures in
    settle-left c.args.plan.now c.args.marks.now c.args.name c.args.running c.args.held c.unchanged.result _
    (c.mark_accepted.ensures ∙ ap (marks_after c.args.marks.now c.args.name) t.ensures)
    (report_of t.result) t.ensures (sym c.is_billed.ensures ∙ c.if-is_billed.false) (ap report_of u.0) u.1 u.2 u.3
