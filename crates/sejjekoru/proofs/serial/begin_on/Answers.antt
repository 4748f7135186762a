-- `sejjekoru::serial::begin_on` meets its contract: what `link::begin` says, told by numbers.
use Rattle.std.proofs.Common.{rules}
use Rattle.sejjekoru.specs.Serial.{saying_number, saying_value}
use Rattle.sejjekoru.proofs.Saying.{told-as}
use Rattle.sejjekoru.proofs.serial.begin_on.Goals as goal

pub returns : goal.returns
returns c = let says = c.begin-turn.ensures in record { tells = told-as saying_number saying_value says.answers c.told.ensures; leaves = says.leaves }
