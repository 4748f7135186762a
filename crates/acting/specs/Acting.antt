-- What actions in code are lent and what they answer: what the paper's action makes was played and counted, or the action failed.
-- Assumes nothing.
use Rattle.std.specs.Prelude.{◌≡◌, Bool, List, [], ◌∷◌, map, ℕ, min, ◌≤◌, ◌<◌, ◌+◌, ◌*◌, ◌^◌, length, None, Some}
use Rattle.std.proofs.Math.Option.{Option, none, some}
use Rattle.paper.specs.Basics.{elem}
use Rattle.paper.specs.Procedure.{Made, Action, only, parking, vacate}
use Rattle.paper.specs.Yard.{Bay, Yard, Crossing, crossing, carrier_at, after, pack, junction}
use Rattle.words.specs.Sets.{mem, words, span}
use Rattle.yard.specs.Table.{Table}
use Rattle.levels.specs.Levels.{Levelled}
use Rattle.rings.specs.Search.{Shown}
use Rattle.moving.specs.Bounds.{vacate_most}
use Rattle.moving.specs.Placed.{Placed, Stored, Unchanged}
use Rattle.vacate.specs.declared.Vacated.{Vacated}
use Rattle.vacate.specs.declared.Vacated.TheVariants.{Empty, Filled, Failed as NotVacated}
use Rattle.acting.specs.declared.Tally.{Tally}
use Rattle.acting.specs.Tried.{Tried}

-- the table is that of some yard
pub record Tabled (n : ℕ) (table : List ℕ) : Type 0 where
  pub yard : Yard
  pub joins : Table yard n table

-- what every action is lent
pub record Ready (table placement standing empty : List ℕ) : Type 0 where
  pub most : length standing ≤ span
  pub table_size : length standing * words ≤ length table
  pub empty_size : length empty ≡ words
  pub placed : Placed (length standing) placement standing empty
  pub tabled : Tabled (length standing) table
  pub levelled : Levelled (length standing) table

-- two bays are held
pub record HoldsTwo (held : List ℕ) : Type 0 where
  pub one : Bay
  pub two : Bay
  pub holds : (y : ℕ) → y < span → mem held y ≡ elem y (one ∷ two ∷ [])

-- ## Counting

-- The two are the same as far as the code counts.
abbrev pub AsFar : ℕ → ℕ → Type 0
AsFar j k = min j (2 ^ 32) ≡ min k (2 ^ 32)

-- nothing is counted yet
abbrev pub nothing : Tally
nothing = record { crossings = 0; parked = 0 }

-- one tally, and what was counted from nothing after it
pub record Added (at more r : Tally) : Type 0 where
  pub crossings : r.crossings ≡ at.crossings + more.crossings
  pub parks : AsFar r.parked (at.parked + more.parked)
  pub few : r.parked ≤ at.parked + more.parked

-- what a vacate makes by the one crossing to bay e
abbrev pub filled_with : Yard → Crossing → Bay → Made
filled_with Y x e = record { moves = x ∷ []; parked = parking Y e }

-- what a vacate that filled bay e counts: one if three rails or more lead there
abbrev pub parks : Yard → Bay → ℕ
parks Y e = parking Y e

-- the bay that was filled is among the n
abbrev pub FilledIn : ℕ → Vacated → Type 0
FilledIn n Empty = Unit {0}
FilledIn n (Filled e m) = e.0 < n
FilledIn n NotVacated = Unit {0}

-- the tally of a vacate
abbrev pub Counts : Yard → Vacated → Tried → Type 0
Counts Y Empty r = r ≡ Some nothing
Counts Y (Filled e m) r = (k : Tally) × (r ≡ Some k) × (k.crossings ≡ m) × (k.parked ≡ parks Y e.0)
Counts Y NotVacated r = r ≡ None

-- What is made was played on p, counted from `at` on, and stored where there is room for all of it.
pub record Tallied (m : Made) (n : ℕ) (p p' standing' empty' out : List ℕ) (at : Tally) (out' : List ℕ) (r : Tally) : Type 0 where
  pub moved : p' ≡ after p m.moves
  pub placed : Placed n p' standing' empty'
  pub stored : Stored (map pack m.moves) out at.crossings out'
  pub counted : r.crossings ≡ at.crossings + length m.moves
  pub parks : AsFar r.parked (at.parked + m.parked)
  -- each vacate that is counted has a crossing
  pub few : at.parked ≤ at.crossings → r.parked ≤ r.crossings

-- at most k crossings were counted
abbrev pub Within : Tally → ℕ → Tried → Type 0
Within at k None = Unit {0}
Within at k (Some m) = m.crossings ≤ at.crossings + k

-- ## Acting

pub record Succeeded (m : Made) (n : ℕ) (p p' standing' empty' out : List ℕ) (at : Tally) (out' : List ℕ) (r : Tried) : Type 0 where
  pub count : Tally
  pub done : r ≡ Some count
  pub played : Tallied m n p p' standing' empty' out at out' count

-- As the paper's action: where it fails nothing is changed, and else what it makes was played.
pub record Acts (o : Option Made) (n : ℕ) (p standing empty out : List ℕ) (at : Tally) (p' standing' empty' out' : List ℕ) (r : Tried) : Type 0 where
  pub fails : o ≡ none → (r ≡ None) × Unchanged p standing empty out p' standing' empty' out'
  pub succeeds : (m : Made) → o ≡ some m → Succeeded m n p p' standing' empty' out at out' r

-- The same on lists that are used up: where it fails nothing is said of them.
pub record Tries (o : Option Made) (n : ℕ) (p out : List ℕ) (at : Tally) (p' standing' empty' out' : List ℕ) (r : Tried) : Type 0 where
  pub fails : o ≡ none → r ≡ None
  pub succeeds : (m : Made) → o ≡ some m → Succeeded m n p p' standing' empty' out at out' r

-- The same where nobody has moved if it fails. What was tried may be left in the list then.
pub record Proceeds (o : Option Made) (n : ℕ) (p out : List ℕ) (at : Tally) (p' standing' empty' out' : List ℕ) (r : Tried) : Type 0 where
  pub tries : Tries o n p out at p' standing' empty' out' r
  pub still : r ≡ None → p' ≡ p

-- ## In the yard that the table shows

-- tries what the paper's action makes at the placement lent
abbrev pub TriesAs : (Yard → Action) → (table p standing out : List ℕ) → Tally → (p' standing' empty' out' : List ℕ) → Tried → Type 0
TriesAs action table p standing out at p' standing' empty' out' r =
    (t : Tabled (length standing) table) → Tries (action t.yard p) (length standing) p out at p' standing' empty' out' r

-- proceeds as the paper's action does
abbrev pub ProceedsAs : (Yard → Action) → (table p standing out : List ℕ) → Tally → (p' standing' empty' out' : List ℕ) → Tried → Type 0
ProceedsAs action table p standing out at p' standing' empty' out' r =
    (t : Tabled (length standing) table) → Proceeds (action t.yard p) (length standing) p out at p' standing' empty' out' r

-- (the code's function has the same name)
abbrev pub junctions : Yard → Bay → Bool
junctions Y v = junction Y v

-- ## What is asked, what is said

-- vacating x
pub record RoomAsks (table held : List ℕ) (x : Bay) (standing : List ℕ) : Type 0 where
  pub inside : x < length standing
  pub held_size : length held ≡ words
  pub shown : Shown (length standing) table held

pub record RoomSays (table held : List ℕ) (x : Bay) (p standing empty out p' standing' empty' out' : List ℕ) (r : Tried) : Type 0 where
  pub few : Within nothing vacate_most r
  pub acts : (s : Shown (length standing) table held)
      → Acts (vacate s.yard s.bays x p) (length standing) p standing empty out nothing p' standing' empty' out' r

-- the crossing from a to b is the only one
abbrev pub CrossCounts : Bay → Bay → (p standing out p' standing' empty' out' : List ℕ) → Tally → Type 0
CrossCounts a b p standing out p' standing' empty' out' r =
    Tallied (only (crossing (carrier_at p a) a b ∷ [])) (length standing) p p' standing' empty' out nothing out' r

-- it is a vacate that filled b
abbrev pub FillCounts : Bay → Bay → (table p standing out p' standing' empty' out' : List ℕ) → Tally → Type 0
FillCounts a b table p standing out p' standing' empty' out' r =
    (t : Tabled (length standing) table)
    → Tallied (filled_with t.yard (crossing (carrier_at p a) a b) b) (length standing) p p' standing' empty' out nothing out' r
