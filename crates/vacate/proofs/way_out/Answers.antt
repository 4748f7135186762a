-- `vacate::way_out` meets its contract. What is looked up and what is searched for is the same way.
use Rattle.std.proofs.Common.{◌∙◌, rules}
use Rattle.vacate.proofs.way_out.Goals as goal

pub way_to_nearest-requires : goal.way_to_nearest-requires
way_to_nearest-requires c = c.requires.way

pub returns-then-table-n : goal.returns-then-table-n
returns-then-table-n c = c.way_to_nearest.ensures

pub way-known-requires : goal.way-known-requires
way-known-requires c = c.requires

pub returns-in-Some : goal.returns-in-Some
returns-in-Some c = record { found = λ s q w. c.way-known.ensures.tells s q w _ _ c.in-Some.is }

pub way_to_nearest-requires-2 : goal.way_to_nearest-requires-2
way_to_nearest-requires-2 c =
    let way = c.way-known in
    let p = c.requires.way in
    record { lent = p.lent; inside = p.inside; unheld = p.unheld; wanted_size = p.wanted_size; room = rw way.auto.path p.room }

pub returns : goal.returns
returns c = c.way_to_nearest-2.ensures
