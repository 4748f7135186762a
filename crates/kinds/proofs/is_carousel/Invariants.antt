use Rattle.std.proofs.Common.{◌≡◌, ℕ, ◌<◌}
use Rattle.choice.specs.Taking.{rails}
use Rattle.kinds.proofs.is_carousel.Given as goal

-- the bays passed have two rails each
abbrev pub invariant-loop-v : goal.invariant-loop-v
invariant-loop-v l = (a : ℕ) → a < l.v → rails l.table a ≡ 2
