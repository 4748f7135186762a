-- The letters of a good map are its cells, at most 64 times 64; a bad one changes nothing.
use Rattle.std.proofs.Common.{sym, ◌∙◌, ap}
use Rattle.sides.specs.Layout.{sides_of}
use Rattle.gridmap.proofs.Good.{letters-fit, reads-good}
use Rattle.gridmap.proofs.read.Goals as goal

pub number-bays-requires : goal.number-bays-requires
number-bays-requires c = letters-fit c.args.file.now _ (sym (ap sides_of c.in-Ok.is) ∙ c.read-found.ensures)

pub returns-in-Ok : goal.returns-in-Ok
returns-in-Ok c =
    reads-good c.args.file.now c.args.cells.now c.in-Ok.height c.in-Ok.width (sym (ap sides_of c.in-Ok.is) ∙ c.read-found.ensures) _ c.number-bays.ensures.0 _ c.number-bays.ensures.1
