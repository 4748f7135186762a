-- What the levels of a table tell: the nearest of some bays and the shortest path to it, where the held bays make it no longer.
-- Assumes nothing.
use Rattle.std.specs.Prelude.{◌≡◌, Bool, true, false, List, [], ℕ, ◌+◌, ◌*◌, ◌≤◌, ◌<◌, length, take, Some}
use Rattle.paper.specs.Basics.{In}
use Rattle.paper.specs.Yard.{Bay}
use Rattle.paper.specs.Path.{rings, inward}
use Rattle.words.specs.Sets.{mem, words, span}
use Rattle.rings.specs.Search.{Shown, around}
use Rattle.rings.specs.Ways.{WayFound, WayAsks}
use Rattle.levels.specs.Levels.{Levelled}
use Rattle.docket.specs.declared.Bay.{Bay as Held}
use Rattle.lookup.specs.Known.{Known}

-- with no bay held, x is d rails from e
pub record Distant (n : ℕ) (table held : List ℕ) (x e d : ℕ) : Type 0 where
  pub shown : Shown n table held
  pub levels : Levelled n table
  pub home : e < n
  pub far : In x (around shown.yard [] e d)

-- With the held bays it is no further, and the first bays of the room are the shortest path between them.
pub record Led {n : ℕ} {table held : List ℕ} {x e d : ℕ} (t : Distant n table held x e d) (room : List ℕ) : Type 0 where
  pub near : In x (around t.shown.yard t.shown.bays e d)
  pub path : take (d + 1) room ≡ inward t.shown.yard (rings t.shown.yard t.shown.bays e) d x

-- what is told is the nearest bay of which q holds, and the shortest path to it
abbrev pub Told : {n : ℕ} {table held : List ℕ} → Shown n table held → Bay → (Bay → Bool) → List ℕ → Known → Type 0
Told s x q room r = (e : Held) (m : ℕ) → r ≡ Some (e, m) → WayFound s x q room (Some (e, m))

-- ## What is asked, what is said

-- x, which is not held, is d rails from e with no bay held, and the table has a level for each of these rails
pub record LeadAsks (n : ℕ) (table held : List ℕ) (x e d : ℕ) (path : List ℕ) : Type 0 where
  pub most : n ≤ span
  pub apart : 1 ≤ d
  pub short : d < n
  pub levels_size : d * n * words ≤ length table
  pub held_size : length held ≡ words
  pub unheld : mem held x ≡ false
  pub room : n ≤ length path
  pub distant : Distant n table held x e d

pub record LeadSays (n : ℕ) (table held : List ℕ) (x e d : ℕ) (path' : List ℕ) (r : Bool) : Type 0 where
  pub leads : (t : Distant n table held x e d) → r ≡ true → Led t path'

-- the way from x, which is not wanted itself, to the nearest wanted bay, where the table goes on above its rails
pub record LookupAsks (n : ℕ) (table held wanted path : List ℕ) (x : Bay) : Type 0 where
  pub way : WayAsks n table held wanted path x
  pub levelled : Levelled n table
  pub unwanted : mem wanted x ≡ false

pub record LookupSays (n : ℕ) (table held wanted : List ℕ) (x : Bay) (path' : List ℕ) (r : Known) : Type 0 where
  pub tells : (s : Shown n table held) (q : Bay → Bool) → ((b : ℕ) → b < n → mem wanted b ≡ q b) → Told s x q path' r
