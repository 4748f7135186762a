-- `plan_numbers::told_planned` meets its contract: the plan's length or the refusal is told as `numbers::told` tells it.
use Rattle.std.proofs.Common.{sym, rules}
use Rattle.numbers.specs.Numbers.{verdict_number, verdict_value}
use Rattle.numbers.proofs.Telling.{told-as}
use Rattle.plan_numbers.proofs.told_planned.Goals as goal

pub returns : goal.returns
returns c = (told-as verdict_number verdict_value (sym c.length_in.ensures) c.told.ensures, search rules)
