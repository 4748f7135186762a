-- `laying::lay` meets its contract.
use Rattle.std.proofs.Common.{rules}
use Rattle.laying.proofs.Saying.{lay-short, lay-fits}
use Rattle.laying.proofs.lay.Goals as goal

pub returns-then-rails-needed : goal.returns-then-rails-needed
returns-then-rails-needed c = lay-short _ _ _ _ c.rails-needed.ensures.counted c.if-rails-needed.true

pub returns : goal.returns
returns c = lay-fits _ _ _ _ c.rails-needed.ensures.counted c.if-rails-needed.false _ _ c.rails-written.ensures
