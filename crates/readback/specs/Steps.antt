-- What a line adds to the file's numbers, and what the pass over a file leaves.
-- Assumes nothing.
use Rattle.std.specs.Prelude.{Bool, true, false, List, [], ◌∷◌, ◌≡◌, ℕ, length, Err, Ok}
use Rattle.paper.specs.Text.{Text, Read, good, bad_line}
use Rattle.stores.specs.Writing.{Wrote}
use Rattle.line_entries.specs.declared.Entry.{Entry}
use Rattle.line_entries.specs.declared.Entry.TheVariants.{Number, Comment, Broken}
use Rattle.readback.specs.Entries.{read_entries}
use Rattle.readback.specs.Found.{Found}

-- what a line adds
abbrev pub numbers_of : Entry → List ℕ
numbers_of (Number n) = n ∷ []
numbers_of Comment = []
numbers_of Broken = []

abbrev pub is_broken : Entry → Bool
is_broken (Number n) = false
is_broken Comment = false
is_broken Broken = true

abbrev pub count_in : Read (List ℕ) → Read ℕ
count_in (good ns) = good (length ns)
count_in (bad_line n) = bad_line n

abbrev pub found_of : Found → Read ℕ
found_of (Ok k) = good k
found_of (Err n) = bad_line n

-- the count, and the numbers stored as far as there is room
pub record Folds (reports : Bool) (file : Text) (before : List ℕ) (r : Found) (after : List ℕ) : Type 0 where
  pub answer : found_of r ≡ count_in (read_entries reports file)
  pub sized : length after ≡ length before
  pub stored : (ns : List ℕ) → read_entries reports file ≡ good ns → Wrote before 0 ns after (length ns)
