-- The rails alone show the yard, and have no levels above them.
use Rattle.std.proofs.Common.{arith}
use Rattle.search_cases.proofs.Opened.{rails-room, shown-rails, levelled-rails}
use Rattle.search_cases.proofs.vacated_by_rails.Goals as goal

pub vacate-requires : goal.vacate-requires
vacate-requires c =
    let p = c.requires in
    record {
      most = p.0;
      inside = p.1;
      table_size = rails-room _ _ p.2;
      held_size = p.3;
      empty_size = p.4;
      placed = p.5;
      shown = shown-rails _ _ p.2 p.6;
      levelled = levelled-rails _ _ p.2 (omega (arith, p.1));
    }
