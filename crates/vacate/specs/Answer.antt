-- How the answer of vacating reads as the paper's.
-- Assumes nothing.
use Rattle.std.specs.Prelude.{◌≡◌, List, ℕ, ◌*◌, ◌≤◌, ◌<◌, length}
use Rattle.std.proofs.Math.Option.{Option, none, some}
use Rattle.paper.specs.Basics.{◌>>=◌}
use Rattle.paper.specs.Yard.{Bay, Yard, Placement, Crossing}
use Rattle.paper.specs.Procedure.{filled_by, vacate}
use Rattle.words.specs.Sets.{words, span}
use Rattle.levels.specs.Levels.{Levelled}
use Rattle.rings.specs.Search.{Shown}
use Rattle.moving.specs.Placed.{Placed, Unchanged, Acted}
use Rattle.vacate.specs.declared.Vacated.{Vacated}
use Rattle.vacate.specs.declared.Vacated.TheVariants.{Empty, Filled, Failed}

-- the count of crossings made, if it succeeded
abbrev pub count_after : Vacated → Option ℕ
count_after Empty = some 0
count_after (Filled e m) = some m
count_after Failed = none

-- the bay that was filled, if anything moved
abbrev pub filled : Vacated → Option Bay
filled Empty = none
filled (Filled e m) = some e.0
filled Failed = none

-- the bay that the paper's vacate fills
abbrev pub bay_filled : Yard → List Bay → Bay → Placement → Option Bay
bay_filled Y held x p = filled_by Y held x p

module _ {n : ℕ} {table held : List ℕ} (s : Shown n table held) (x : Bay) (p standing empty out : List ℕ) where
  -- the crossings of the paper's vacate at p
  abbrev pub vacating : Option (List Crossing)
  vacating = vacate s.yard s.bays x p >>= λ m. some m.moves

  pub record Vacates (p' standing' empty' out' : List ℕ) (r : Vacated) : Type 0 where
    pub counts : count_after r ≡ (vacating >>= λ xs. some (length xs))
    pub fills : filled r ≡ bay_filled s.yard s.bays x p
    pub acted : Acted vacating n p standing empty out p' standing' empty' out'
    pub still : filled r ≡ none → Unchanged p standing empty out p' standing' empty' out'
    pub short : (xs : List Crossing) → vacating ≡ some xs → length xs < n
    pub some_moved : (e : Bay) → filled r ≡ some e → (xs : List Crossing) → vacating ≡ some xs → 0 < length xs

-- ## What is asked, what is said

-- x is a bay of the yard that the table shows, and the set has the bays held
pub record VacateAsks (table held : List ℕ) (x : Bay) (p standing empty : List ℕ) : Type 0 where
  pub most : length standing ≤ span
  pub inside : x < length standing
  pub table_size : length standing * words ≤ length table
  pub held_size : length held ≡ words
  pub empty_size : length empty ≡ words
  pub placed : Placed (length standing) p standing empty
  pub shown : Shown (length standing) table held
  pub levelled : Levelled (length standing) table

-- the paper's vacate, in the yard that the table shows
abbrev pub VacateSays : (table held : List ℕ) → Bay → (p standing empty out p' standing' empty' out' : List ℕ) → Vacated → Type 0
VacateSays table held x p standing empty out p' standing' empty' out' r =
    (s : Shown (length standing) table held) → Vacates s x p standing empty out p' standing' empty' out' r
