-- A refusal is told as `numbers::refused` tells it; the rest is read off.
use Rattle.std.proofs.Common.{rules}
use Rattle.checker.specs.Reading.{checked_of}
use Rattle.numbers.specs.Numbers.{number_of, value_of}
use Rattle.numbers.proofs.Telling.{told-as}
use Rattle.log_numbers.proofs.told_checked.Goals as goal

pub returns-in-Err : goal.returns-in-Err
returns-in-Err c = told-as (λ x. number_of (checked_of x)) (λ x. value_of c.args.written (checked_of x)) c.in-Err.is c.refused.ensures
