-- `slot_numbers::slots` meets its contract. The answer is the paper's, so what is told of the one is told of the other.
use Rattle.std.proofs.Common.{sym, length, rules}
use Rattle.numbers.specs.Numbers.{number_of, value_of}
use Rattle.numbers.proofs.Telling.{told-as}
use Rattle.slot_numbers.proofs.slots.Goals as goal

pub returns : goal.returns
returns c =
    let says = c.slots-answer.ensures in
    (told-as number_of (value_of (length c.args.plan.now)) (sym says.answers) c.told_checked.ensures, says.leaves)
