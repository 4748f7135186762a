-- The words passed hold x's bit.
use Rattle.words.specs.Sets.{bit_of}
use Rattle.words.proofs.Loops.{Done}
use Rattle.words.proofs.alone.Given as goal

abbrev pub invariant-loop-i : goal.invariant-loop-i
invariant-loop-i l = Done l.ws l.i (bit_of l.x)
