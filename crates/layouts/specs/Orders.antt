-- The two files as the program takes them, in words: 14 before 15 before planning.
-- Assumes nothing.
use Rattle.std.specs.Prelude.{List, [], ◌∷◌, map, ◌⊎◌, ◌≡◌, ℕ, suc}
use Rattle.std.proofs.Math.Option.{Option, none, some}
use Rattle.paper.specs.Yard.{Bay, Rail}
use Rattle.paper.specs.Order.{order}
use Rattle.paper.specs.Text.{Text, lines}
use Rattle.paper.specs.Map.{Grid, type_due, bay_count, bay_in, rail_ends}
use Rattle.paper.specs.Scenario.{version_due}
use Rattle.paper.specs.Program.{program_room}
use Rattle.exactly.specs.First.{Row}
use Rattle.exactly.specs.Rows.{plan_rows}
use Rattle.layouts.specs.Files.{Whole, FirstBadLine}
use Rattle.layouts.specs.Words.{KeepsMap, EndsMap, KeepsScenario, EndsScenario}

-- "A file that can't be read is 14 or 15 with line 0"; else the first bad line, from 1
abbrev pub BadFile : (Text → ℕ → Type 0) → Option Text → ℕ → Type 0
BadFile Bad none n = n ≡ 0
BadFile Bad (some bs) n = (d : ℕ) × (n ≡ suc d) × Bad bs d

abbrev pub GoodFile : {A : Type 0} → (Text → A → Type 0) → Option Text → A → Type 0
GoodFile Good none a = ⊥
GoodFile Good (some bs) a = Good bs a

-- the map
abbrev pub BadMap : Option Text → ℕ → Type 0
BadMap file n = BadFile (λ bs d. FirstBadLine KeepsMap EndsMap type_due (lines bs) d) file n

abbrev pub GoodMap : Option Text → Grid → Type 0
GoodMap file G = GoodFile (λ bs G. Whole KeepsMap EndsMap type_due (lines bs) G) file G

-- the scenario, on a map
module _ (G : Grid) where
  abbrev pub BadScenario : Option Text → ℕ → Type 0
  BadScenario file n =
      BadFile (λ bs d. FirstBadLine (KeepsScenario G.width G.height (bay_in G)) (EndsScenario G.width G.height (bay_in G)) version_due (lines bs) d) file n

  abbrev pub GoodScenario : Option Text → List (Bay × Bay) → Type 0
  GoodScenario file cs =
      GoodFile (λ bs cs. Whole (KeepsScenario G.width G.height (bay_in G)) (EndsScenario G.width G.height (bay_in G)) version_due (lines bs) cs) file cs

  -- what the program then plans: "The program lends room for 8,192 crossings."
  abbrev pub order_rows : List (Bay × Bay) → List Row
  order_rows cs = plan_rows (order (bay_count G) (rail_ends G) (map (λ c. c.0) cs) (map (λ c. c.1) cs)) program_room

-- r is one of the rails
abbrev pub Among : Rail → List Rail → Type 0
Among r [] = ⊥
Among r (q ∷ qs) = (q ≡ r) ⊎ Among r qs

-- "Rails join bays side by side or above each other, lower bay first": the cell of a, and the one to its right or the one below it
abbrev pub Beside : Grid → Bay → Bay → Type 0
Beside G a b = (x y : ℕ) × (bay_in G x y ≡ some a) × ((bay_in G (suc x) y ≡ some b) ⊎ (bay_in G x (suc y) ≡ some b))
