-- `sejjekoru::open_on` meets its contract: what `ledger::open` says, told by numbers.
use Rattle.std.proofs.Common.{rules}
use Rattle.numbers.specs.Numbers.{number_of, value_of}
use Rattle.ledger.proofs.Opened.{held-few, held-room, held_whole, lines-filled}
use Rattle.sejjekoru.proofs.Saying.{told-as}
use Rattle.sejjekoru.proofs.open_on.Goals as goal

pub returns : goal.returns
returns c =
    let o = c.open-opening.ensures in
    record {
      tells = told-as number_of (value_of 0) o.answers c.told_checked.ensures;
      record_then = o.leaves;
      few = held-few _ _ _ _ _ _ o;
      room = held-room _ _ _ _ _ _ o;
      whole = held_whole _ _ _ _ _ _ o;
      lines_then = lines-filled _ _ _ _ _ _ o;
    }
