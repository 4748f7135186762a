-- `surveying::accept` meets its contract.
use Rattle.std.proofs.Common.{refl, sym, ◌∙◌, ap}
use Rattle.docket.specs.Reading.{verdict_of}
use Rattle.surveying.specs.Says.{tested_of}
use Rattle.surveying.proofs.Telling.{accept-refused, accept-room, accept-all}
use Rattle.surveying.proofs.accept.Goals as goal

pub returns-in-Err : goal.returns-in-Err
returns-in-Err c =
    accept-refused c.args.bays c.args.ends.now c.args.rails.now _ _ (ap tested_of (sym c.in-Err.is) ∙ c.test-tested.ensures) c.refused.ensures.bays (ap verdict_of c.refused.ensures.verdict)

pub returns-then-rails-count : goal.returns-then-rails-count
returns-then-rails-count c =
    accept-room c.args.bays c.args.ends.now c.args.rails.now _ (ap tested_of (sym c.in_default.is) ∙ c.test-tested.ensures) c.if-rails-count.true c.refused-then-rails-count.ensures.bays (ap verdict_of c.refused-then-rails-count.ensures.verdict)

pub returns : goal.returns
returns c =
    accept-all c.args.bays c.args.ends.now c.args.rails.now _ (ap tested_of (sym c.in_default.is) ∙ c.test-tested.ensures) _ c.if-rails-count.false refl refl c.copy.ensures
