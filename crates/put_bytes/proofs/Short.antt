-- A number has at most 20 digits.
use Prim.Native.Nat.{ℕ, ◌+◌, ◌^◌, ◌≤◌, ◌<◌}
use native.Mathlib.Omega.{arith}
use lib.ListN.{length, length-append}
use Rattle.paper.specs.Text.{Text}
use Rattle.laws.proofs.Digits.{decimal-short}
use Rattle.put_bytes.specs.Named.{named}

pub named-short : (t : Text) (n : ℕ) → n < 2 ^ 64 → length (named t n) ≤ length t + 20
unfolding named
named-short t n h = simp length-append (omega (arith, decimal-short n h))
