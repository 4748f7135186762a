-- Any two answers that comparing's statement allows are equal: number, value, which list, and what stands in the list of differences.
use mathlib.Core.Path.{◌≡◌, refl, sym, ◌∙◌}
use mathlib.Core.List.{List}
use Prim.Native.Nat.{ℕ}
use lib.IntN.{ℤ}
use Rattle.paper.specs.Docket.{Verdict, granted, denied}
use Rattle.comparing.specs.Comparing.{number_by, value_by}
use Rattle.numbers.specs.Numbers.{verdict_number, verdict_value}
use Rattle.sejjekoru.specs.Compare.{CompareTells}

-- Comparing tells its answer as all other functions do.
pub told-alike : (v : Verdict) → (number_by v ≡ verdict_number v) × (value_by v ≡ verdict_value v)
told-alike (granted n) = (refl, refl)
told-alike (denied r) = (refl, refl)

pub compare-determined : (first second : List ℕ) (lent : List ℤ) (number number' value value' longer longer' : ℕ) (left left' : List ℤ)
    → CompareTells first second lent number value longer left → CompareTells first second lent number' value' longer' left'
    → (number ≡ number') × (value ≡ value') × (longer ≡ longer') × (left ≡ left')
compare-determined first second lent number number' value value' longer longer' left left' s t = (
  s.tells.numbered ∙ sym t.tells.numbered,
  s.tells.valued ∙ sym t.tells.valued,
  s.which ∙ sym t.which,
  s.leaves ∙ sym t.leaves,
)
