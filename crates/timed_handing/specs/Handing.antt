-- What the steps from an answer to its print promise.
-- Assumes nothing.
use Rattle.std.specs.Prelude.{◌≡◌, List, ℕ, ltb, length, if◌then◌else◌}
use Rattle.std.proofs.lemmas.List.Edits.{sets}
use Rattle.paper.specs.Docket.{granted, denied, room}
use Rattle.paper.specs.Answers.{Answer}
use Rattle.paper.specs.Text.{Text}
use Rattle.docket.specs.Reading.{verdict_of}
use Rattle.docket.specs.Verdict.{Verdict as Given}
use Rattle.stores.specs.Writing.{Wrote}
use Rattle.print_room.specs.Printout.{Handed}
use Rattle.timed_handing.specs.Timed.{printed_timed}

pub record TimedPrints (e : ℕ) (r : Given) (list before after : List ℕ) (n : ℕ) : Type 0 where
  pub prints : (a : Answer) → Handed r list a → Wrote before 0 (printed_timed e a) after n

-- A text handed over whole or not at all: its length where it fits, and then it stands at the list's beginning; else 8 with its length, and the list as it was.
pub record TimedSays (t : Text) (out : List ℕ) (answer : Given) (out' : List ℕ) : Type 0 where
  pub answers : verdict_of answer ≡ (if ltb (length out) (length t) then denied (room (length t)) else granted (length t))
  pub leaves : out' ≡ (if ltb (length out) (length t) then out else sets out 0 t)

pub record HandsOver (e : ℕ) (r : Given) (list out : List ℕ) (answer : Given) (out' : List ℕ) : Type 0 where
  pub hands : (a : Answer) → Handed r list a → TimedSays (printed_timed e a) out answer out'
