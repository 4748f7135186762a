-- The letters of the bytes passed are numbered.
use Rattle.std.proofs.Common.{◌≡◌, length, take}
use Rattle.paper.specs.Text.{count}
use Rattle.paper.specs.Map.{bay_letter}
use Rattle.stores.specs.Writing.{Wrote}
use Rattle.gridmap.specs.Cells.{letters, numbering}
use Rattle.gridmap.proofs.number.Given as goal

abbrev pub invariant-loop-b : goal.invariant-loop-b
invariant-loop-b l = record {
  wrote : Wrote l.initial.cells 0 (numbering 0 (letters (take l.b-index l.file))) l.cells l.n;
  letters_passed : l.n ≡ length (letters (take l.b-index l.file));
  bays_passed : l.bays ≡ count bay_letter (letters (take l.b-index l.file));
}
