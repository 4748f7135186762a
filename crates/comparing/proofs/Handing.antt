-- What is handed back begins within both lists: there are no more equal leading crossings than either list has.
use mathlib.Core.Path.{◌≡◌}
use mathlib.Core.List.{List}
use Prim.Native.Nat.{ℕ}
use Rattle.paper.specs.Docket.{Verdict}
use Rattle.paper.proofs.Tests.{by-option}
use Rattle.leading.specs.Leading.{Within}
use Rattle.leading.proofs.Leading.{leading-first, leading-second}
use Rattle.comparing.specs.Comparing.{refusal, comparison}

pub begins : (first second : List ℕ) (lent : ℕ) (v : Verdict) → v ≡ comparison first second lent → Within first second v
unfolding comparison
begins first second lent v is =
    rw is
    (by-option (refusal first second lent)
    (λ e. rw e (leading-first first second, leading-second first second))
    (λ r e. rw e tt))
