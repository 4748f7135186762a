-- How many carriers of a scenario count, and what is stored of one.
-- Assumes nothing.
use Rattle.std.specs.Prelude.{Bool, List, ℕ, eqb, ltb, set, if◌then◌else◌}
use Rattle.paper.specs.Limits.{most_carriers}

-- the carriers that a state says it has read, with at most 254 and none before the version
abbrev pub count_in : Bool → ℕ → ℕ
count_in version count = if version then 0 else if ltb count most_carriers then count else most_carriers

-- a list after so many carriers were read where it was `before`: one more number where the count has grown
unfoldable pub kept : ℕ → ℕ → ℕ → List ℕ → List ℕ
kept before count x l = if eqb count before then l else set l before x
