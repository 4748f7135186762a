-- The scenario file: its layout, and the starts and goals in it.
-- Assumes nothing.
use Rattle.std.specs.Prelude.{Bool, List, [], ◌∷◌, ◌++◌, ℕ, eqb, ltb, leb, length, get_or, if◌then◌else◌}
use Rattle.std.proofs.Math.Option.{Option, none, some}
use Rattle.paper.specs.Basics.{◌and◌, ◌or◌, ◌>>=◌, when, any}
use Rattle.paper.specs.Limits.{most_carriers}
use Rattle.paper.specs.Yard.{Bay}
use Rattle.paper.specs.Text.{Text, text, TAB, lines, split, same, all, count, is_digit, is_point, value, sized, is_number, Read, read_lines}

-- "1 to 20 bytes of digits with at most one point, and at least one digit"
unfoldable pub is_length : Text → Bool
is_length l = sized 20 l and all (λ b. is_digit b or is_point b) l and leb (count is_point l) 1 and any is_digit l

-- the version line is due; or a carrier's, with the starts and goals so far
pub data Listed : Type 0 where
  version_due : Listed
  carriers : List (Bay × Bay) → Listed

-- with the map's width and height, and its bays by column and row
module _ (W H : ℕ) (bay : ℕ → ℕ → Option Bay) where
  -- "nine fields split by tabs: bucket, map name, width, height, start x, start y, goal x, goal y, length"
  unfoldable pub nine_fields : List Text → Bool
  nine_fields fs =
      eqb (length fs) 9
      and (is_number 5 (get_or fs 0 []) and sized 128 (get_or fs 1 [])
      and (is_number 5 (get_or fs 2 []) and eqb (value (get_or fs 2 [])) W)
      and (is_number 5 (get_or fs 3 []) and eqb (value (get_or fs 3 [])) H)
      and is_number 5 (get_or fs 4 []) and is_number 5 (get_or fs 5 []) and is_number 5 (get_or fs 6 []) and is_number 5 (get_or fs 7 [])
      and is_length (get_or fs 8 []))

  -- "each cell must be a bay"
  unfoldable pub start_and_goal : ℕ → ℕ → ℕ → ℕ → Option (Bay × Bay)
  start_and_goal sx sy gx gy = bay sx sy >>= λ s. bay gx gy >>= λ g. some (s, g)

  unfoldable pub carrier_line : List Text → Option (Bay × Bay)
  carrier_line fs =
      if nine_fields fs
      then start_and_goal (value (get_or fs 4 [])) (value (get_or fs 5 [])) (value (get_or fs 6 [])) (value (get_or fs 7 []))
      else none

  -- "`version 1` or `version 1.0`, then one line a carrier"
  unfoldable pub scenario_line : Listed → Text → Option Listed
  scenario_line version_due l = when (same l (text "version 1") or same l (text "version 1.0")) (carriers [])
  scenario_line (carriers cs) l =
      if ltb (length cs) most_carriers then carrier_line (split TAB l) >>= (λ c. some (carriers (cs ++ (c ∷ [])))) else none

  unfoldable pub scenario_end : Listed → Option (List (Bay × Bay))
  scenario_end version_due = none
  scenario_end (carriers cs) = some cs

  unfoldable pub read_scenario : Text → Read (List (Bay × Bay))
  read_scenario bs = read_lines scenario_line scenario_end 1 version_due (lines bs)
