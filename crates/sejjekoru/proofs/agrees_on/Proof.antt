-- `sejjekoru::agrees_on` meets its contract. The answer is the request's, so what is told of the one is told of the other.
-- Assumes nothing.
use Rattle.log_numbers.specs.Agreeing.{agreement_number, agreement_value}
use Rattle.ledger.proofs.Lent.{agreement-of-lent}
use Rattle.sejjekoru.proofs.Saying.{told-as}
use borrow.Author.Rules.{rules}
use Rattle.sejjekoru.proofs.agrees_on.Statement.{statement}
use Rattle.sejjekoru.proofs.agrees_on.Tie as tie

compare-requires : tie.Need-compare-answer-requires
compare-requires c κs = search rules

told-agreement-requires : tie.Need-told_agreement-requires
told-agreement-requires c κs = search rules

returns : tie.Need-returns
returns c lines e = told-as agreement_number agreement_value (agreement-of-lent _ _ _ _ lines _ e c.compare-answer.ensures) c.told_agreement.ensures

pub agrees_on_spec : {M : Type 1} → statement M
agrees_on_spec = tie.close (tie.spec compare-requires told-agreement-requires returns)
