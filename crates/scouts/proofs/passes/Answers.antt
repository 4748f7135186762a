-- The path's bays are low enough to be asked for.
use Rattle.std.proofs.Common.{◌<◌, sym, ◌∙◌, arith, rules}
use Rattle.words.specs.Sets.{span}
use Rattle.scouts.proofs.passes.Goals as goal

pub is_in-requires : goal.is_in-requires
is_in-requires c = omega (arith, c.requires.size, c.requires.low c.loop-bay.bay-index c.loop-bay-test.true)

pub returns-then-is_in : goal.returns-then-is_in
returns-then-is_in c = λ z. record { place = c.loop-bay.bay-index; there = c.loop-bay-test.true; passed = sym c.is_in.ensures ∙ c.if-is_in.true }
