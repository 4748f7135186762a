-- `sejjekoru::files::sejjekoru_map` meets its contract: what `readers::read_map` says, told by numbers.
use Rattle.std.proofs.Common.{rules}
use Rattle.numbers.specs.Numbers.{verdict_number, verdict_value}
use Rattle.sejjekoru.proofs.Saying.{told-as}
use Rattle.sejjekoru.proofs.files.sejjekoru_map.Goals as goal

pub returns : goal.returns
returns c = let says = c.read_map-answer.ensures in record { tells = told-as verdict_number verdict_value says.answers c.told.ensures; bays_then = says.bays_then; leaves = says.leaves }
