-- x's word is x / 64, and in it its bit is x % 64.
use Rattle.std.proofs.Common.{◌/◌, ◌%◌, arith, eq-eqb, ne_eqb}
use Rattle.words.specs.Sets.{bit_of}
use Rattle.words.proofs.Bits.{one_shl}
use Rattle.words.proofs.bit_of.Goals as goal

pub returns-then-x-i : goal.returns-then-x-i
unfolding bit_of
returns-then-x-i c = rw (eq-eqb (c.args.x / 64) c.args.i c.if-x-i.true) (one_shl (c.args.x % 64) (omega arith))

pub returns-else-x-i : goal.returns-else-x-i
unfolding bit_of
returns-else-x-i c = rw (ne_eqb (c.args.x / 64) c.args.i c.if-x-i.false)
