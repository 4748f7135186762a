-- `keeping::after` meets its contract. Each case adds what was made before.
use Rattle.std.proofs.Common.{rules, arith}
use Rattle.keeping.proofs.Keeping.{after_both, after-single, after-short}
use Rattle.keeping.proofs.after.Goals as goal

pub add-requires : goal.add-requires
add-requires c = omega (arith, c.requires.earlier, (c.requires.by.few _ _ _ c.in-Both.is).2)

pub add-requires-in-Single : goal.add-requires-in-Single
add-requires-in-Single c = omega (arith, c.requires.earlier, (c.requires.by.single _ _ c.in-Single.is).1)

pub returns-in-Both : goal.returns-in-Both
returns-in-Both c = rw c.in-Both.is (after_both c.add.ensures)

pub returns-in-Single : goal.returns-in-Single
returns-in-Single c = rw c.in-Single.is (after-single c.add-in-Single.ensures)

pub returns-in-Short : goal.returns-in-Short
returns-in-Short c = rw c.in-Short.is after-short
