-- A refusal is told as `numbers::refused` tells it; the rest is read off.
use Rattle.std.proofs.Common.{rules}
use Rattle.ledger.specs.Statements.{agreement_of}
use Rattle.log_numbers.specs.Agreeing.{agreement_number, agreement_value}
use Rattle.numbers.proofs.Telling.{told-as}
use Rattle.log_numbers.proofs.told_agreement.Goals as goal

pub returns-in-Refused : goal.returns-in-Refused
returns-in-Refused c = told-as (λ x. agreement_number (agreement_of x)) (λ x. agreement_value (agreement_of x)) c.in-Refused.is c.refused.ensures
