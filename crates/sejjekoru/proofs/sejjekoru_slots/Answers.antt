-- `sejjekoru::sejjekoru_slots` meets its contract: `slot_numbers::slots` says it in two parts.
use Rattle.std.proofs.Common.{rules}
use Rattle.sejjekoru.proofs.sejjekoru_slots.Goals as goal

pub returns : goal.returns
returns c = let says = c.slots.ensures in record { tells = says.0; leaves = says.1 }
