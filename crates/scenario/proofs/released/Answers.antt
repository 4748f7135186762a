-- by its two cases.
use Rattle.std.proofs.Common.{refl}
use Rattle.paper.specs.Bytes.{release}
use Rattle.scenario.proofs.released.Goals as goal

pub returns-then-s : goal.returns-then-s
unfolding release
returns-then-s c = record { failed = c.on_byte.ensures.failed; version = c.on_byte.ensures.version; count = c.on_byte.ensures.count; under = λ bay cs. rw c.if-s.true (c.on_byte.ensures.under bay cs) }

pub returns-else-s : goal.returns-else-s
unfolding release
returns-else-s c = record { failed = refl; version = refl; count = refl; under = λ bay cs. rw c.if-s.false }
