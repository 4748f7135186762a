-- `sejjekoru::files::sejjekoru_scenario` meets its contract: what `readers::read_scenario` says, told by numbers.
use Rattle.std.proofs.Common.{rules}
use Rattle.numbers.specs.Numbers.{verdict_number, verdict_value}
use Rattle.sejjekoru.proofs.Saying.{told-as}
use Rattle.sejjekoru.proofs.files.sejjekoru_scenario.Goals as goal

pub returns : goal.returns
returns c = let says = c.read_scenario-answer.ensures in record { tells = told-as verdict_number verdict_value says.answers c.told.ensures; starts_then = says.starts_then; goals_then = says.goals_then }
