-- `handing::answer` meets its contract.
use Rattle.handing.proofs.Fitting.{handed-fits, handed-short}
use Rattle.handing.proofs.answer.Goals as goal

pub returns-then-needed-has : goal.returns-then-needed-has
returns-then-needed-has c = handed-fits _ _ c.if-needed-has.true

pub returns : goal.returns
returns c = handed-short _ _ c.if-needed-has.false
