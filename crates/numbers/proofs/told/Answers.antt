-- A refusal is told as `refused` tells it; the rest is read off.
use Rattle.std.proofs.Common.{rules}
use Rattle.docket.specs.Reading.{verdict_of}
use Rattle.numbers.specs.Numbers.{verdict_number, verdict_value}
use Rattle.numbers.proofs.Telling.{told-as}
use Rattle.numbers.proofs.told.Goals as goal

pub returns-in-Err : goal.returns-in-Err
returns-in-Err c = told-as (λ x. verdict_number (verdict_of x)) (λ x. verdict_value (verdict_of x)) c.in-Err.is c.refused.ensures
