-- The shift brings bit x % 64 of word x / 64 to the front.
use Rattle.std.proofs.Common.{rules}
use Rattle.words.specs.Sets.{bit, on, mem}
use Rattle.words.proofs.is_in.Goals as goal

pub returns : goal.returns
unfolding mem on bit
returns c = search rules
