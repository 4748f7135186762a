-- All letters pass if those not yet asked do.
use Rattle.std.proofs.Common.{◌≡◌, drop}
use Rattle.paper.specs.Text.{all}
use Rattle.sides.specs.Letters.{letter}
use Rattle.sides.proofs.all_letters.Given as goal

abbrev pub invariant-loop-b : goal.invariant-loop-b
invariant-loop-b l = all letter (drop l.b-index l.text) ≡ all letter l.text
