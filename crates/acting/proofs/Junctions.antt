-- Junctions by the table: the rails counted in a bay's row are the yard's, and a vacate that filled a junction counts one.
-- Assumes nothing.
use mathlib.Core.Path.{◌≡◌, ap}
use mathlib.Core.Bool.{true, false}
use mathlib.Core.List.{List}
use Prim.Native.Nat.{ℕ, ◌≤◌, ◌<◌}
use native.Mathlib.Omega.{arith}
use lib.Dec.{leb, ltb}
use Rattle.paper.specs.Yard.{Bay, Yard, junction}
use Rattle.paper.proofs.Tests.{by_cases}
use Rattle.words.specs.Sets.{span}
use Rattle.choice.specs.Taking.{rails}
use Rattle.choice.proofs.Counting.{table-rails}
use Rattle.acting.specs.Acting.{Tabled, parks}

pub junction-rails : {n : ℕ} {table : List ℕ} (t : Tabled n table) → n ≤ span → (v : Bay) → v < n → ltb 2 (rails table v) ≡ junction t.yard v
unfolding junction
junction-rails t most v hv = ap (leb 3) (table-rails t.joins most v hv)

pub parks-one : (Y : Yard) (e : Bay) → junction Y e ≡ true → 1 ≡ parks Y e
parks-one Y e j = rw j

pub parks-none : (Y : Yard) (e : Bay) → junction Y e ≡ false → 0 ≡ parks Y e
parks-none Y e j = rw j

pub parks-few : (Y : Yard) (e : Bay) → parks Y e ≤ 1
parks-few Y e = by_cases (junction Y e) (λ j. rw j (omega arith)) (λ j. rw j (omega arith))
