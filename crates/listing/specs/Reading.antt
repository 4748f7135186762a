-- What a scenario reads as, what is answered, and what stands in the lent lists at the end. The same of a map is passed on.
-- Assumes nothing.
use Rattle.std.specs.Prelude.{Bool, List, ◌≡◌, ℕ, ltb, length}
use Rattle.paper.specs.Basics.{◌or◌}
use Rattle.paper.specs.Yard.{Bay}
use Rattle.paper.specs.Docket.{Refusal, no_14, no_15, Verdict, denied}
use Rattle.paper.specs.Text.{Text, Read, good, bad_line}
use Rattle.paper.specs.Map.{Grid, bay_in}
use Rattle.paper.specs.Scenario.{read_scenario}
use Rattle.scenario.specs.Under.{starts_of, goals_of}
pub use Rattle.laying.specs.Laying.{fitting, fitted, Laid, laid, unlaid, laying, laid_verdict, laid_bays, laid_rails, MapSays}

-- the carriers' starts and goals; or 14, then 15
pub data Listing : Type 0 where
  listed : List (Bay × Bay) → Listing
  unlisted : Refusal → Listing

abbrev pub listing_in : Read (List (Bay × Bay)) → Listing
listing_in (good cs) = listed cs
listing_in (bad_line l) = unlisted (no_15 l)

abbrev pub listing : Read Grid → Text → Listing
listing (good G) file = listing_in (read_scenario G.width G.height (bay_in G) file)
listing (bad_line l) file = unlisted (no_14 l)

-- either list is too short for the carriers
abbrev pub short : List ℕ → List ℕ → List (Bay × Bay) → Bool
short starts goals cs = ltb (length starts) (length cs) or ltb (length goals) (length cs)

abbrev pub list_verdict : List ℕ → List ℕ → Listing → Verdict
list_verdict starts goals (listed cs) = fitting (short starts goals cs) (length cs)
list_verdict starts goals (unlisted r) = denied r

abbrev pub list_starts : List ℕ → List ℕ → Listing → List ℕ
list_starts starts goals (listed cs) = fitted (short starts goals cs) starts (starts_of cs)
list_starts starts goals (unlisted r) = starts

abbrev pub list_goals : List ℕ → List ℕ → Listing → List ℕ
list_goals starts goals (listed cs) = fitted (short starts goals cs) goals (goals_of cs)
list_goals starts goals (unlisted r) = goals

pub record ScenarioSays (x : Listing) (starts goals : List ℕ) (answer : Verdict) (starts' goals' : List ℕ) : Type 0 where
  pub answers : answer ≡ list_verdict starts goals x
  pub starts_then : starts' ≡ list_starts starts goals x
  pub goals_then : goals' ≡ list_goals starts goals x
