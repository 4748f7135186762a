-- A word with every bit set has each bit, so a set of such words holds every bay.
use mathlib.Core.Path.{◌≡◌, ap, ◌∙◌}
use mathlib.Core.Bool.{true, not}
use Prim.Native.Nat.{◌-◌, ◌/◌, ◌%◌, ◌^◌, ◌<◌}
use native.Mathlib.Omega.{arith}
use lib.ListN.{replicate, get_or-replicate}
use Rattle.paper.specs.Yard.{Bay}
use Rattle.words.specs.Sets.{mem, words, span}
use Rattle.words.proofs.Bits.{on-not, on-zero}

pub full : (x : Bay) → x < span → mem (replicate words (2 ^ 64 - 1)) x ≡ true
unfolding mem
full x h =
    rw (get_or-replicate words (x / 64) (2 ^ 64 - 1) 0 (omega arith)) (on-not 0 (x % 64) (omega arith) (omega arith) ∙ ap not (on-zero (x % 64)))
