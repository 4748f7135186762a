-- `sejjekoru::serial::end_on` meets its contract: what `link::end` says, told by numbers.
use Rattle.std.proofs.Common.{rules}
use Rattle.sejjekoru.specs.Serial.{saying_number, saying_value}
use Rattle.sejjekoru.proofs.Saying.{told-as}
use Rattle.sejjekoru.proofs.serial.end_on.Goals as goal

pub returns : goal.returns
returns c = let says = c.end-turn.ensures in record { tells = told-as saying_number saying_value says.answers c.told.ensures; after = says.after }
