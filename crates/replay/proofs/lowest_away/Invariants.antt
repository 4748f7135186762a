use Rattle.std.proofs.Common.{◌≡◌, ℕ, ◌<◌, get_or}
use Rattle.replay.proofs.lowest_away.Given as goal

-- the carriers that were passed are home
abbrev pub invariant-loop-c : goal.invariant-loop-c
invariant-loop-c l = (k : ℕ) → k < l.c → get_or l.at k 0 ≡ get_or l.goal k 0
