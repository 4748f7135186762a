-- How the code's answers read as the paper's, and what opening a yard promises.
-- Assumes nothing.
use Rattle.std.specs.Prelude.{◌≡◌, false, List, ℕ, ◌≤◌, ◌<◌, length, Err, Ok}
use Rattle.std.proofs.Math.Option.{Option, none, some}
use Rattle.paper.specs.Order.{Order}
use Rattle.paper.specs.Docket.{yard_of}
use Rattle.paper.specs.Answers.{first_six}
use Rattle.docket.specs.Reading.{refusal_of}
use Rattle.docket.specs.declared.Refusal.{Refusal}
use Rattle.words.specs.Sets.{mem, mem_row, span}
use Rattle.first_bad.specs.Table.{Table}
use Rattle.yard.specs.declared.Yard.{Yard as Numbers}
use Rattle.yard.specs.Opened.{Opened}
use Rattle.paper.specs.Docket as paper

abbrev pub opened_of : Opened → Option paper.Refusal
opened_of (Ok y) = none
opened_of (Err r) = some (refusal_of r)

-- an open yard has the bays and the rail ends that were given, and the table is its table; no other row has a bay in it
pub record Admits (o : Order) (y : Numbers) (table : List ℕ) : Type 0 where
  pub bays : y.bays ≡ o.bays
  pub ends : y.ends ≡ length o.ends
  pub rows : Table (yard_of o) o.bays table
  pub beyond : (a b : ℕ) → o.bays ≤ a → b < span → mem_row table a b ≡ false

-- the first of 1 to 6, and what the table holds where there is none
pub record Tests (given : Order) (lent : ℕ) (o : Opened) (table : List ℕ) : Type 0 where
  pub answer : opened_of o ≡ first_six given lent
  pub admitted : (y : Numbers) → o ≡ Ok y → Admits given y table

-- the same, and a refused yard leaves an empty table
pub record Opens (given : Order) (lent : ℕ) (o : Opened) (table : List ℕ) : Type 0 where
  pub answer : opened_of o ≡ first_six given lent
  pub admitted : (y : Numbers) → o ≡ Ok y → Admits given y table
  pub refused : (r : Refusal) → o ≡ Err r → (x : ℕ) → mem table x ≡ false
