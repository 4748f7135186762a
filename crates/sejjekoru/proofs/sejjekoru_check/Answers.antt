-- `sejjekoru::sejjekoru_check` meets its contract. The answer is the paper's, so what is told of the one is told of the other.
use Rattle.std.proofs.Common.{rules}
use Rattle.numbers.specs.Numbers.{number_of, value_of}
use Rattle.sejjekoru.proofs.Saying.{told-as}
use Rattle.sejjekoru.proofs.sejjekoru_check.Goals as goal

pub returns : goal.returns
returns c = told-as number_of (value_of 0) c.check-answer.ensures c.told_checked.ensures
