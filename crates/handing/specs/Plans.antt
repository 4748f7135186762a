-- The print of any list of crossings, handed over: what is answered, and what stands in the lent list then.
-- Assumes nothing.
use Rattle.std.specs.Prelude.{List, ℕ, leb, length, if◌then◌else◌}
use Rattle.paper.specs.Yard.{crossings, most_crossings}
use Rattle.paper.specs.Docket.{Verdict, denied, size}
use Rattle.paper.specs.Print.{print_plan}
use Rattle.handing.specs.Handing.{fitted, handed}

-- "a lent plan over 65,536 crossings" is 1
unfoldable pub plan_printed : List ℕ → ℕ → Verdict
plan_printed plan has = if leb (length plan) most_crossings then handed (length (print_plan (crossings plan))) has else denied size

unfoldable pub plan_print_end : List ℕ → List ℕ → List ℕ
plan_print_end plan out = if leb (length plan) most_crossings then fitted (print_plan (crossings plan)) out else out
