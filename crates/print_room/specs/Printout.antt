-- What an answer as it is told, and the list with its plan, have to do with the paper's answer; and the room that every print has.
-- Assumes nothing.
use Rattle.std.specs.Prelude.{◌≡◌, List, ℕ, ◌+◌, ◌*◌, ◌≤◌, length, take, Err, Ok}
use Rattle.paper.specs.Yard.{Crossing, crossings, most_crossings}
use Rattle.paper.specs.Answers.{Answer, accepted, told}
use Rattle.paper.specs.Print.{printed}
use Rattle.paper.specs.Program.{program_room}
use Rattle.docket.specs.declared.Refusal.{Refusal}
use Rattle.docket.specs.Verdict.{Verdict}
use Rattle.docket.specs.Reading.{verdict_of}
use Rattle.stores.specs.Writing.{Wrote}

-- program_room lines of 22 bytes and the cost's 26
abbrev pub print_room : ℕ
print_room = 22 * program_room + 26

-- a plan lies in the list, and is not too long to print
pub record Within (r : Verdict) (list : List ℕ) : Type 0 where
  pub inside : (m : ℕ) → r ≡ Ok m → m ≤ length list
  pub few : length list ≤ most_crossings

-- it is told, and a plan stands in the list
pub record Handed (r : Verdict) (list : List ℕ) (a : Answer) : Type 0 where
  pub tells : verdict_of r ≡ told a
  pub stands : (xs : List Crossing) → a ≡ accepted xs → crossings (take (length xs) list) ≡ xs

-- what is printed of it, and that a refusal's line is short
pub record Prints (r : Verdict) (list before after : List ℕ) (n : ℕ) : Type 0 where
  pub prints : (a : Answer) → Handed r list a → Wrote before 0 (printed a) after n
  pub short : (f : Refusal) → r ≡ Err f → n ≤ 64
