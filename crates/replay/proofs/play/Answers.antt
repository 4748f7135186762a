use Rattle.std.proofs.Common.{length}
use Rattle.replay.proofs.Walking.{legal-to-before, legal-to-end}
use Rattle.replay.proofs.play.Goals as goal

pub returns-then-legal-plan : goal.returns-then-legal-plan
returns-then-legal-plan c =
    let legal = c.play_legal-legal in
    λ Y p. rw (legal-to-before legal.result (length c.args.plan.now) c.if-legal-plan.true) at (legal.ensures Y p)

pub returns : goal.returns
returns c =
    let legal = c.play_legal-legal in
    λ Y p. rw (legal-to-end legal.result (length c.args.plan.now) c.if-legal-plan.false) at (legal.ensures Y p)
