-- `sejjekoru::by_edition::sejjekoru_program_timed` meets its contract. The answer is the definition's, so what is told of the one is told of the other.
use Rattle.std.proofs.Common.{rules}
use Rattle.numbers.specs.Numbers.{verdict_number, verdict_value}
use Rattle.sejjekoru.proofs.Saying.{told-as}
use Rattle.sejjekoru.proofs.by_edition.sejjekoru_program_timed.Goals as goal

pub returns : goal.returns
returns c =
    let says = c.program-answer.ensures in
    record { tells = told-as verdict_number verdict_value says.answers c.told.ensures; leaves = says.leaves }
