-- How the code's state reads as the state of the scenario's step, and what each function makes of it.
-- Assumes nothing.
use Rattle.std.specs.Prelude.{Bool, true, false, ◌≡◌, ℕ, suc, ◌+◌, ◌≤◌, eqb, length, if◌then◌else◌, Err, None, Ok, Some}
use mathlib.Core.List.{List, [], ◌∷◌, ◌++◌, map, foldl}
use Rattle.std.proofs.Math.Option.{Option, none, some}
use Rattle.std.proofs.lemmas.List.Edits.{sets}
use Rattle.paper.specs.Limits.{most_carriers}
use Rattle.paper.specs.Yard.{Bay}
use Rattle.paper.specs.Text.{Text, Read, good, bad_line}
use Rattle.paper.specs.Scenario.{read_scenario}
use Rattle.stores.specs.Writing.{Wrote}
use Rattle.carrier_lists.specs.Counting.{count_in}
use Rattle.paper.specs.Bytes.{scenario_finish, State, failed, going, Under, in_version, in_carrier, line_closed, begin_line, close_line, scenario_step, in_line, release}
use Rattle.fields.specs.ReadAs.{match_of, seen_of, past_of}
use Rattle.gridmap.specs.Cells.{bay_found}
use Rattle.gridmap.specs.declared.Grid.{Grid}
use Rattle.scenario.specs.declared.Reading.{Reading}
use Rattle.scenario.specs.ScenarioRead.{ScenarioRead}
use Rattle.scenario.specs.Found.{Found}

-- the bays of a map by its cells' numbers
abbrev pub bay_by : List ℕ → Grid → ℕ → ℕ → Option Bay
bay_by table G x y = bay_found table G.height G.width x y

-- the number of the line under way, for so many carriers read
abbrev pub line_no : Bool → ℕ → ℕ
line_no true k = 1
line_no false k = suc (suc k)

abbrev pub under_of : Reading → List (Bay × Bay) → Under
under_of s cs = if s.version then in_version (match_of s.text) else in_carrier cs (past_of s.past) (seen_of s.field)

-- the state, with the carriers read before
abbrev pub state_of : Reading → List (Bay × Bay) → State Under
state_of s cs =
    if s.failed then failed (line_no s.version s.count) else going (line_no s.version s.count) s.begun s.held (under_of s cs)

-- the carriers read after: one more where the count has grown
abbrev pub carriers_after : Reading → Reading → List (Bay × Bay) → List (Bay × Bay)
carriers_after s r cs = if eqb r.count s.count then cs else cs ++ ((r.start, r.goal) ∷ [])

-- no carrier is read before the version, and no 255th
pub record Sound (s : Reading) : Type 0 where
  pub first : s.version ≡ true → s.count ≡ 0
  pub few : s.count ≤ most_carriers

-- what a state stands for, whatever its numbers are
abbrev pub taken_as : Reading → Reading
taken_as s = record {
  failed = s.failed;
  version = s.version;
  begun = s.begun;
  held = s.held;
  count = count_in s.version s.count;
  start = s.start;
  goal = s.goal;
  text = s.text;
  past = s.past;
  field = s.field;
}

abbrev pub carrier_is : Found → Option (Bay × Bay)
carrier_is (Some (s, g)) = some (s, g)
carrier_is None = none

-- the start of a line, so many carriers read before, and the last of them
abbrev pub due_of : Bool → ℕ → ℕ → ℕ → Reading
due_of v k s g = record {
  failed = false;
  version = v;
  begun = false;
  held = false;
  count = k;
  start = s;
  goal = g;
  text = record { place = 0; agrees = true };
  past = record { index = 0; well = true; sx = 0; sy = 0; gx = 0; gy = 0 };
  field = record { place = 0; number = 0; digits = true; point = false; plain = true; figure = false };
}

-- the state after the line under way has ended
pub record Closes (table : List ℕ) (G : Grid) (s r : Reading) : Type 0 where
  pub sound : Sound r
  pub counts : (cs : List (Bay × Bay)) → length cs ≡ s.count → length (carriers_after s r cs) ≡ r.count
  pub closes : (cs : List (Bay × Bay)) → length cs ≡ s.count
      → state_of r (carriers_after s r cs) ≡ line_closed (begin_line G.width G.height (bay_by table G)) (line_no s.version s.count) (close_line G.width G.height (bay_by table G) (under_of s cs))

-- one byte on
pub record Steps (table : List ℕ) (G : Grid) (s : Reading) (b : ℕ) (r : Reading) : Type 0 where
  pub sound : Sound r
  pub counts : (cs : List (Bay × Bay)) → length cs ≡ s.count → length (carriers_after s r cs) ≡ r.count
  pub steps : (cs : List (Bay × Bay)) → length cs ≡ s.count
      → state_of r (carriers_after s r cs) ≡ scenario_step G.width G.height (bay_by table G) (state_of s cs) b

-- what a byte inside a line leaves as it was, and what it makes of the line
pub record On (G : Grid) (s : Reading) (b : ℕ) (r : Reading) : Type 0 where
  pub failed : r.failed ≡ s.failed
  pub version : r.version ≡ s.version
  pub count : r.count ≡ s.count
  pub under : (bay : ℕ → ℕ → Option Bay) (cs : List (Bay × Bay)) → under_of r cs ≡ in_line G.width G.height bay (under_of s cs) b

-- the same where a CR was held back
pub record Released (G : Grid) (s r : Reading) : Type 0 where
  pub failed : r.failed ≡ s.failed
  pub version : r.version ≡ s.version
  pub count : r.count ≡ s.count
  pub under : (bay : ℕ → ℕ → Option Bay) (cs : List (Bay × Bay)) → under_of r cs ≡ release (in_line G.width G.height bay) s.held (under_of s cs)

-- the line has begun, and a CR is held back or not
pub record Marked (s : Reading) (hold : Bool) (r : Reading) : Type 0 where
  pub failed : r.failed ≡ s.failed
  pub version : r.version ≡ s.version
  pub count : r.count ≡ s.count
  pub begun : r.begun ≡ true
  pub held : r.held ≡ hold
  pub under : (cs : List (Bay × Bay)) → under_of r cs ≡ under_of s cs

-- the layout is broken in this line
pub record Broken (s r : Reading) : Type 0 where
  pub failed : r.failed ≡ true
  pub version : r.version ≡ s.version
  pub count : r.count ≡ s.count

-- ## The end of the file
-- what was read, once the file has ended
abbrev pub read_of : Reading → List (Bay × Bay) → Read (List (Bay × Bay))
read_of s cs = if s.failed then bad_line (line_no s.version s.count) else if s.version then bad_line (line_no s.version s.count) else good cs

pub record Finishes (table : List ℕ) (G : Grid) (s r : Reading) : Type 0 where
  pub sound : Sound r
  pub counts : (cs : List (Bay × Bay)) → length cs ≡ s.count → length (carriers_after s r cs) ≡ r.count
  pub finishes : (cs : List (Bay × Bay)) → length cs ≡ s.count
      → read_of r (carriers_after s r cs) ≡ scenario_finish G.width G.height (bay_by table G) (state_of s cs)

-- the answer with the count of carriers for the carriers
abbrev pub answer_of : ScenarioRead → Read ℕ
answer_of (Ok k) = good k
answer_of (Err n) = bad_line n

abbrev pub answer_by : Reading → Read ℕ
answer_by s = if s.version then bad_line 1 else if s.failed then bad_line (s.count + 2) else good s.count

abbrev pub count_read : Read (List (Bay × Bay)) → Read ℕ
count_read (good cs) = good (length cs)
count_read (bad_line n) = bad_line n

-- ## Storing the carriers
abbrev pub starts_of : List (Bay × Bay) → List ℕ
starts_of cs = map (λ c. c.0) cs

abbrev pub goals_of : List (Bay × Bay) → List ℕ
goals_of cs = map (λ c. c.1) cs

-- the carriers are stored, and there are as many as the state says
pub record Stored (cs : List (Bay × Bay)) (s : Reading) (starts₀ starts goals₀ goals : List ℕ) : Type 0 where
  pub count : length cs ≡ s.count
  pub starts_wrote : Wrote starts₀ 0 (starts_of cs) starts s.count
  pub goals_wrote : Wrote goals₀ 0 (goals_of cs) goals s.count

-- these bytes came after a state
pub record Came (table : List ℕ) (G : Grid) (from : State Under) (bs : Text) (s : Reading) (starts₀ starts goals₀ goals : List ℕ) : Type 0 where
  pub carriers : List (Bay × Bay)
  pub stored : Stored carriers s starts₀ starts goals₀ goals
  pub sound : Sound s
  pub state : state_of s carriers ≡ foldl (scenario_step G.width G.height (bay_by table G)) from bs

-- from a sound state on, whatever carriers were stored before, in whatever lists
pub record FeedsOn (table : List ℕ) (G : Grid) (s : Reading) (bs : Text) (r : Reading) (starts starts' goals goals' : List ℕ) : Type 0 where
  pub feeds : Sound s → (cs : List (Bay × Bay)) (starts₀ goals₀ : List ℕ) → Stored cs s starts₀ starts goals₀ goals → Came table G (state_of s cs) bs r starts₀ starts' goals₀ goals'

-- from any state on, by what it stands for
pub record Feeds (table : List ℕ) (G : Grid) (s : Reading) (bs : Text) (r : Reading) (starts starts' goals goals' : List ℕ) : Type 0 where
  pub feeds : (cs : List (Bay × Bay)) (starts₀ goals₀ : List ℕ) → Stored cs (taken_as s) starts₀ starts goals₀ goals
      → Came table G (state_of (taken_as s) cs) bs r starts₀ starts' goals₀ goals'

-- the file ended after a state
pub record Over (table : List ℕ) (G : Grid) (from : State Under) (r : Reading) (starts₀ starts goals₀ goals : List ℕ) : Type 0 where
  pub carriers : List (Bay × Bay)
  pub stored : Stored carriers r starts₀ starts goals₀ goals
  pub sound : Sound r
  pub reads : read_of r carriers ≡ scenario_finish G.width G.height (bay_by table G) from

pub record EndsOn (table : List ℕ) (G : Grid) (s r : Reading) (starts starts' goals goals' : List ℕ) : Type 0 where
  pub ends : Sound s → (cs : List (Bay × Bay)) (starts₀ goals₀ : List ℕ) → Stored cs s starts₀ starts goals₀ goals → Over table G (state_of s cs) r starts₀ starts' goals₀ goals'

pub record Ends (table : List ℕ) (G : Grid) (s r : Reading) (starts starts' goals goals' : List ℕ) : Type 0 where
  pub ends : (cs : List (Bay × Bay)) (starts₀ goals₀ : List ℕ) → Stored cs (taken_as s) starts₀ starts goals₀ goals
      → Over table G (state_of (taken_as s) cs) r starts₀ starts' goals₀ goals'

-- the whole file was read
pub record Ended (file : Text) (G : Grid) (table : List ℕ) (r : Reading) (starts₀ starts goals₀ goals : List ℕ) : Type 0 where
  pub carriers : List (Bay × Bay)
  pub stored : Stored carriers r starts₀ starts goals₀ goals
  pub reads : read_of r carriers ≡ read_scenario G.width G.height (bay_by table G) file

-- the lent lists after a scenario
abbrev pub starts_after : List ℕ → Read (List (Bay × Bay)) → List ℕ
starts_after before (good cs) = sets before 0 (starts_of cs)
starts_after before (bad_line n) = before

abbrev pub goals_after : List ℕ → Read (List (Bay × Bay)) → List ℕ
goals_after before (good cs) = sets before 0 (goals_of cs)
goals_after before (bad_line n) = before

pub record Reads (file : Text) (G : Grid) (table : List ℕ) (r : ScenarioRead) (starts₀ starts goals₀ goals : List ℕ) : Type 0 where
  pub answer : answer_of r ≡ count_read (read_scenario G.width G.height (bay_by table G) file)
  pub starts_left : starts ≡ starts_after starts₀ (read_scenario G.width G.height (bay_by table G) file)
  pub goals_left : goals ≡ goals_after goals₀ (read_scenario G.width G.height (bay_by table G) file)
