-- A line of the timed print is four numbers with what stands between them. So it is short.
use mathlib.Core.Path.{◌≡◌}
use mathlib.Core.List.{[], ◌∷◌, ◌++◌, append_assoc}
use Prim.Native.Nat.{ℕ, ◌-◌, ◌^◌, ◌≤◌, ◌<◌}
use native.Mathlib.Omega.{arith}
use lib.ListN.{length, length-append}
use Rattle.paper.specs.Yard.{Crossing}
use Rattle.paper.specs.Text.{text}
use Rattle.paper.specs.Print.{decimal, action_line, ended}
use Rattle.put_bytes.specs.Named.{named}
use Rattle.laws.proofs.Digits.{decimal-short}
use Rattle.put_bytes.proofs.Short.{named-short}
use Rattle.trains.specs.Print.{timed_line}

pub line-parts : (s : ℕ) (x : Crossing)
    → decimal (s - 1) ++ named (text ": (move c") x.carrier ++ named (text " b") x.from ++ named (text " b") x.to ++ text ") [1]\n"
    ≡ ended (timed_line s x ∷ [])
unfolding named timed_line action_line ended
line-parts s x = simp append_assoc

-- a line is short
pub line-short : (s : ℕ) (x : Crossing) → s < 2 ^ 64 → x.carrier < 2 ^ 64 → x.from < 2 ^ 64 → x.to < 2 ^ 64 → length (ended (timed_line s x ∷ [])) ≤ 100
line-short s x hs hc hf ht =
    rw (← line-parts s x)
    (simp length-append (omega (arith, decimal-short (s - 1) (omega arith), named-short (text ": (move c") x.carrier hc, named-short (text " b") x.from hf, named-short (text " b") x.to ht)))
