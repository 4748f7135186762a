-- Bit x % 64 of word x / 64 is taken out, and no other bit changes.
use Rattle.std.proofs.Common.{◌%◌, arith}
use Rattle.words.proofs.Bits.{one_shl}
use Rattle.words.proofs.Sets.{mem-less}
use Rattle.words.proofs.remove.Goals as goal

pub returns : goal.returns
returns c = simp (one_shl (c.args.x % 64) (omega arith)) (λ y. mem-less _ _ _ (omega arith))
