-- The count is at most 254, and one that is says itself.
use mathlib.Core.Path.{◌≡◌}
use mathlib.Core.Bool.{Bool, true, false}
use Prim.Native.Nat.{ℕ, ◌≤◌, ◌<◌}
use native.Mathlib.Omega.{arith}
use lib.Dec.{ltb}
use borrow.Author.Tests.{ltb-true, ltb-false, lt-ltb, le-ltb}
use Rattle.paper.specs.Limits.{most_carriers}
use Rattle.paper.proofs.Tests.{by_cases}
use Rattle.carrier_lists.specs.Counting.{count_in}

pub counted-below : (v : Bool) (n : ℕ) → v ≡ false → n < most_carriers → n ≡ count_in v n
counted-below v n e h = rw (e, lt-ltb n most_carriers h)

pub counted-above : (v : Bool) (n : ℕ) → v ≡ false → most_carriers ≤ n → most_carriers ≡ count_in v n
counted-above v n e h = rw (e, le-ltb n most_carriers h)

pub count-few : (version : Bool) (n : ℕ) → count_in version n ≤ most_carriers
count-few true n = omega arith
count-few false n = by_cases (ltb n most_carriers) (λ e. rw e (omega (arith, ltb-true n most_carriers e))) (λ e. rw e (omega arith))

pub count_same : (n : ℕ) → n ≤ most_carriers → count_in false n ≡ n
count_same n h = by_cases (ltb n most_carriers) (λ e. rw e) (λ e. rw e (omega (arith, ltb-false n most_carriers e)))
