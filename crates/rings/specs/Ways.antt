-- What is read from the rows of a search: the nearest bay of a set, and the shortest path.
-- Assumes nothing.
use Rattle.std.specs.Prelude.{◌≡◌, Bool, true, false, List, ℕ, ◌+◌, ◌-◌, ◌*◌, ◌≤◌, ◌<◌, length, take, None, Some}
use Rattle.std.proofs.Math.Option.{Option, none, some}
use Rattle.paper.specs.Basics.{◌and◌, elem, In, Out}
use Rattle.paper.specs.Yard.{Bay, Yard}
use Rattle.paper.specs.Path.{rings, nearest_of, inward, shortest_path, path_between}
use Rattle.words.specs.Sets.{mem, mem_row, words, span, Kept, any_below, reaches}
use Rattle.yard.specs.Table.{Table}
use Rattle.rings.specs.Search.{Shown, Lent, around, GoesOn}
use Rattle.rings.specs.Path.{Path}
use Rattle.docket.specs.declared.Bay.{Bay as Held}
use Rattle.rings.specs.declared.Near.{Near}
use Rattle.rings.specs.declared.Near.TheVariants.{Found, Nowhere, Farther}
use Rattle.rings.specs.Way.{Way}

-- ## How the answers read

-- the first bays of the lent room are the path
abbrev pub path_of : Path → List ℕ → Option (List Bay)
path_of None room = none
path_of (Some m) room = some (take m room)

-- how many bays it has
abbrev pub path_length : Path → ℕ
path_length None = 0
path_length (Some m) = m

-- the nearest bay, to which the way leads, and how many bays it has
abbrev pub end_of : Way → Option Bay
end_of None = none
end_of (Some (e, m)) = some e.0

abbrev pub way_length : Way → ℕ
way_length None = 0
way_length (Some (e, m)) = m

-- what was found, where the rows reached
abbrev pub way_by : Near → Way
way_by (Found e m) = Some (e, m)
way_by Nowhere = None
way_by Farther = None

-- the path that the way is
abbrev pub path_along : Way → Path
path_along (Some (e, m)) = Some m
path_along None = None

abbrev pub path_by : Near → Path
path_by near = path_along (way_by near)

-- a search that ended at row d with nothing found
pub record Ends (n : ℕ) (rows : List ℕ) (d : ℕ) (r : Near) : Type 0 where
  pub never_found : (e : Held) (m : ℕ) → r ≡ Found e m → ⊥
  pub nowhere : r ≡ Nowhere → GoesOn n rows d
  pub few : r ≡ Farther → length rows < n * words

-- What every path is read from: the table has a row for each of the n bays, and the rows go up to row d.
pub record RowsLent (n : ℕ) (table rows : List ℕ) (d : ℕ) : Type 0 where
  pub most : n ≤ span
  pub far : d < n
  pub table_size : n * words ≤ length table
  pub rows_size : (d + 1) * words ≤ length rows

-- ## The path inward

-- The rows are the rings around some bay, up to the ring of x.
pub record Inside (n : ℕ) (table rows : List ℕ) (d x : ℕ) : Type 0 where
  pub yard : Yard
  pub held : List Bay
  pub goal : Bay
  pub joins : Table yard n table
  pub home : goal < n
  pub rowing : (i b : ℕ) → i ≤ d → b < span → mem_row rows i b ≡ elem b (around yard held goal i)
  pub start : In x (around yard held goal d)

abbrev pub path_in : {n : ℕ} {table rows : List ℕ} {d x : ℕ} → Inside n table rows d x → List Bay
path_in {d = d} {x = x} t = inward t.yard (rings t.yard t.held t.goal) d x

-- the path from x, in room for every bay
pub record InwardAsks (n : ℕ) (table rows : List ℕ) (d x : ℕ) (path : List ℕ) : Type 0 where
  pub lent : RowsLent n table rows d
  pub room : n ≤ length path
  pub inside : Inside n table rows d x

pub record InwardSays (n : ℕ) (table rows : List ℕ) (d x : ℕ) (path' : List ℕ) : Type 0 where
  pub path : (t : Inside n table rows d x) → take (d + 1) path' ≡ path_in t

-- ## The path outward

-- The rows below d are the rings around some bay, and e is in its ring d.
pub record Ended (n : ℕ) (table rows : List ℕ) (d e : ℕ) : Type 0 where
  pub yard : Yard
  pub held : List Bay
  pub start : Bay
  pub joins : Table yard n table
  pub home : start < n
  pub unheld : Out start held
  pub rowing : (i b : ℕ) → i < d → b < span → mem_row rows i b ≡ elem b (around yard held start i)
  pub there : In e (around yard held start d)

-- bay b is on a shortest path from the start to e, i rails on
abbrev pub on_path : {n : ℕ} {table rows : List ℕ} {d e : ℕ} → Ended n table rows d e → ℕ → Bay → Bool
on_path {d = d} {e = e} t i b = elem b (around t.yard t.held t.start i) and elem b (around t.yard t.held e (d - i))

-- the rows from row i on hold the bays on such paths
pub record Narrowed {n : ℕ} {table rows : List ℕ} {d e : ℕ} (t : Ended n table rows d e) (i : ℕ) (rows' : List ℕ) : Type 0 where
  pub rowing : (k b : ℕ) → i ≤ k → k ≤ d → b < span → mem_row rows' k b ≡ on_path t k b

pub record NarrowAsks (n : ℕ) (table rows : List ℕ) (d e : ℕ) : Type 0 where
  pub lent : RowsLent n table rows d
  pub end_inside : e < n
  pub ended : Ended n table rows d e

pub record NarrowSays (n : ℕ) (table rows : List ℕ) (d e : ℕ) (rows' : List ℕ) : Type 0 where
  pub narrowed : (t : Ended n table rows d e) → Narrowed t 1 rows'

-- The rows from row 1 on hold the bays on the shortest paths from x to some bay, d rails on.
pub record Outside (n : ℕ) (table rows : List ℕ) (d x : ℕ) : Type 0 where
  pub yard : Yard
  pub held : List Bay
  pub goal : Bay
  pub joins : Table yard n table
  pub home : x < n
  pub unheld : Out x held
  pub there : In goal (around yard held x d)
  pub rowing : (i b : ℕ) → 1 ≤ i → i ≤ d → b < span → mem_row rows i b ≡ elem b (around yard held x i) and elem b (around yard held goal (d - i))

abbrev pub path_out : {n : ℕ} {table rows : List ℕ} {d x : ℕ} → Outside n table rows d x → List Bay
path_out {d = d} {x = x} t = inward t.yard (rings t.yard t.held t.goal) d x

-- the path from x, in room for every bay
pub record OutwardAsks (n : ℕ) (table rows : List ℕ) (d x : ℕ) (path : List ℕ) : Type 0 where
  pub lent : RowsLent n table rows d
  pub room : n ≤ length path
  pub outside : Outside n table rows d x

pub record OutwardSays (n : ℕ) (table rows : List ℕ) (d x : ℕ) (path' : List ℕ) : Type 0 where
  pub path : (t : Outside n table rows d x) → take (d + 1) path' ≡ path_out t

-- there is a row i, and each kept bay has its row in the table
pub record KeepBesideAsks (table : List ℕ) (i : ℕ) (rows kept : List ℕ) : Type 0 where
  pub kept_size : length kept ≡ words
  pub row_there : i * words + words ≤ length rows
  pub inside : (a : ℕ) → a < span → mem kept a ≡ true → a * words + words ≤ length table

-- row i keeps of its bays those beside the kept ones, and these are the kept ones now
pub record KeptBeside (table : List ℕ) (i : ℕ) (rows kept rows' kept' : List ℕ) : Type 0 where
  pub met : (b : ℕ) → b < span → mem kept' b ≡ any_below (reaches table kept b) span and mem_row rows i b
  pub row : Kept rows i kept' rows'

-- ## What the public functions answer

module _ {n : ℕ} {table held : List ℕ} (s : Shown n table held) where
  -- the paper's path from u to v, or that there is none
  pub record PathFound (u v : Bay) (room : List ℕ) (r : Path) : Type 0 where
    pub fits : path_length r ≤ n
    pub same : path_of r room ≡ path_between s.yard s.bays u v

  -- the nearest bay of which q holds, and among the nearest the choice; and the shortest path to it
  pub record WayFound (x : Bay) (q : Bay → Bool) (room : List ℕ) (r : Way) : Type 0 where
    pub nearest : end_of r ≡ nearest_of s.yard q s.bays x
    pub fits : way_length r ≤ n
    pub path : (e : Bay) → end_of r ≡ some e → take (way_length r) room ≡ shortest_path s.yard s.bays x e

  -- the same of what is sought in few rows: where they do not reach, they are fewer than the bays
  pub record PathNear (u v : Bay) (rows room : List ℕ) (r : Near) : Type 0 where
    pub found : (e : Held) (m : ℕ) → r ≡ Found e m → PathFound u v room (Some m)
    pub nowhere : r ≡ Nowhere → PathFound u v room None
    pub few : r ≡ Farther → length rows < n * words

  pub record WayNear (x : Bay) (q : Bay → Bool) (rows room : List ℕ) (r : Near) : Type 0 where
    pub found : (e : Held) (m : ℕ) → r ≡ Found e m → WayFound x q room (Some (e, m))
    pub nowhere : r ≡ Nowhere → WayFound x q room None
    pub few : r ≡ Farther → length rows < n * words

-- ## What is asked, what is said

-- the path from u to v, in room for every bay
pub record PathAsks (n : ℕ) (table held path : List ℕ) (u v : Bay) : Type 0 where
  pub lent : Lent n table held
  pub start_inside : u < n
  pub goal_inside : v < n
  pub room : n ≤ length path

pub record PathSays (n : ℕ) (table held : List ℕ) (u v : Bay) (path' : List ℕ) (r : Path) : Type 0 where
  pub found : (s : Shown n table held) → PathFound s u v path' r

-- the way from x, which is not held, to the nearest wanted bay, in room for every bay
pub record WayAsks (n : ℕ) (table held wanted path : List ℕ) (x : Bay) : Type 0 where
  pub lent : Lent n table held
  pub inside : x < n
  pub unheld : mem held x ≡ false
  pub wanted_size : length wanted ≡ words
  pub room : n ≤ length path

pub record WaySays (n : ℕ) (table held wanted : List ℕ) (x : Bay) (path' : List ℕ) (r : Way) : Type 0 where
  pub found : (s : Shown n table held) (q : Bay → Bool) → ((b : ℕ) → b < n → mem wanted b ≡ q b) → WayFound s x q path' r

-- the same of what is sought in few rows, one at least
pub record PathNearAsks (n : ℕ) (table held rows path : List ℕ) (u v : Bay) : Type 0 where
  pub asks : PathAsks n table held path u v
  pub first_row : words ≤ length rows

pub record PathNearSays (n : ℕ) (table held rows : List ℕ) (u v : Bay) (path' : List ℕ) (r : Near) : Type 0 where
  pub near : (s : Shown n table held) → PathNear s u v rows path' r

pub record WayNearAsks (n : ℕ) (table held wanted rows path : List ℕ) (x : Bay) : Type 0 where
  pub asks : WayAsks n table held wanted path x
  pub first_row : words ≤ length rows

pub record WayNearSays (n : ℕ) (table held wanted rows : List ℕ) (x : Bay) (path' : List ℕ) (r : Near) : Type 0 where
  pub near : (s : Shown n table held) (q : Bay → Bool) → ((b : ℕ) → b < n → mem wanted b ≡ q b) → WayNear s x q rows path' r
