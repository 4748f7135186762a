-- A set of zeros has no member.
use Rattle.words.proofs.Sets.{mem-zeros}
use Rattle.words.proofs.clear.Goals as goal

pub returns : goal.returns
returns c = rw (c.fill.ensures.after (λ y e. e)) (mem-zeros _)
