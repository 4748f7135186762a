-- Why the timed print is that of the paper's answer, and is handed over whole or not at all: a plan's numbers read as its crossings, and what is
-- counted without room is what is written with it.
use Rattle.std.proofs.Common.{Err, Ok}
use mathlib.Core.Path.{◌≡◌, ◌∙◌, ap}
use mathlib.Core.Bool.{Bool, true, false}
use mathlib.Core.Option.{Option}
use mathlib.Core.List.{List, ◌++◌}
use Prim.Native.Nat.{ℕ, ◌+◌, ◌<◌, ◌≤◌}
use native.Mathlib.Omega.{arith}
use borrow.Author.Tests.{lt-ltb, le-ltb}
use lib.Dec.{ltb, eqb}
use lib.ListN.{length, take, drop, length-map}
use lib.Seq.{sets, take_at, length-take-le}
use Rattle.paper.specs.Yard.{Crossing, unpack, crossings}
use Rattle.paper.specs.Docket.{edition}
use Rattle.paper.specs.Program.{program_answer}
use Rattle.paper.specs.Answers.{Answer, refused}
use Rattle.paper.specs.Dependence.{slots}
use Rattle.paper.specs.Print.{printed}
use Rattle.paper.specs.Text.{Text}
use Rattle.paper.proofs.Tests.{by_cases}
use Rattle.paper.proofs.Slotting as first
use Rattle.docket.specs.declared.Refusal.{Refusal}
use Rattle.docket.specs.declared.Refusal.TheVariants.{Room}
use Rattle.docket.specs.Verdict.{Verdict}
use Rattle.docket.specs.Reading.{refusal_of}
use Rattle.stores.specs.Writing.{Wrote}
use Rattle.print_room.specs.Printout.{Handed}
use Rattle.print_room.specs.Short.{short_or}
use Rattle.print_room.proofs.Telling.{plan-is, refusal_is}
use Rattle.trains.specs.Print.{print_timed}
use Rattle.trains.proofs.Meeting.{slots_length}
use Rattle.editions.specs.Editions.{is_known, slots_by}
use Rattle.timed_handing.specs.Timed.{printed_timed, program_timed}
use Rattle.timed_handing.specs.Handing.{TimedPrints, TimedSays, HandsOver}

-- one slot a crossing, by either edition
pub by_length : (e : ℕ) (xs : List Crossing) → length (slots_by e xs) ≡ length xs
unfolding slots_by
by_length e xs = by_cases (eqb e 2) (λ h. rw h (slots_length xs)) (λ h. rw h (first.slots_length xs))

-- the slots stand at the beginning of the list into which they were written
pub slots-stand : (e : ℕ) (list lent slots' : List ℕ) (m : ℕ) → m ≤ length list
    → slots' ≡ slots_by e (crossings (take m list)) ++ drop (length (take m list)) lent → take m slots' ≡ slots_by e (crossings (take m list))
slots-stand e list lent slots' m h w =
    ap (take m) w
    ∙ take_at (slots_by e (crossings (take m list))) (drop (length (take m list)) lent) m
    (by_length e (crossings (take m list)) ∙ length-map (take m list) unpack ∙ length-take-le m list h)

module _ {r : Verdict} {list : List ℕ} where
  pub plan-prints : (e : ℕ) (m : ℕ) → r ≡ Ok m → {before after ss : List ℕ} {n : ℕ} → ss ≡ slots_by e (crossings (take m list))
      → Wrote before 0 (print_timed ss (crossings (take m list))) after n → TimedPrints e r list before after n
  unfolding printed_timed
  plan-prints e m q {before} {after} {ss} {n} s w = record { prints = λ a h. rw (plan-is m q a h, ← s) w }

  pub refusal-prints : (e : ℕ) (f : Refusal) → r ≡ Err f → {before after : List ℕ} {n : ℕ} → Wrote before 0 (printed (refused (refusal_of f))) after n
      → TimedPrints e r list before after n
  unfolding printed_timed
  refusal-prints e f q w = record { prints = λ a h. rw (refusal_is f q a h) w }

-- ## Whole or not at all

says-room : (t : Text) (out : List ℕ) → length out < length t → TimedSays t out (Err (Room (length t))) out
says-room t out h = let over = lt-ltb (length out) (length t) h in record { answers = rw over; leaves = rw over }

says-whole : (t : Text) (out : List ℕ) → length t ≤ length out → TimedSays t out (Ok (length t)) (sets out 0 t)
says-whole t out h = let room = le-ltb (length out) (length t) h in record { answers = rw room; leaves = rw room }

module _ {e : ℕ} {r : Verdict} {list nothing counted : List ℕ} {needed : ℕ} (p : TimedPrints e r list nothing counted needed) where
  needs : (a : Answer) → Handed r list a → needed ≡ length (printed_timed e a)
  needs a h = (p.prints a h).counted ∙ omega arith

  pub hands-room : (out : List ℕ) → length out < needed → HandsOver e r list out (Err (Room needed)) out
  hands-room out l = record {
    hands = λ a h. let n = needs a h in rw n (says-room (printed_timed e a) out (rw n at l));
  }

  pub hands-whole : (out : List ℕ) → needed ≤ length out → {after : List ℕ} {n : ℕ} → TimedPrints e r list out after n
      → HandsOver e r list out (Ok needed) after
  hands-whole out l {after} w = record {
    hands = λ a h. let n = needs a h in rw (n, (w.prints a h).left) (says-whole (printed_timed e a) out (rw n at l));
  }

-- ## The whole print

module _ (b : Bool) (map_file scenario_file : Option Text) {e : ℕ} {r : Verdict} {list out : List ℕ} {answer : Verdict} {out' : List ℕ} where
  pub edition-says : is_known e ≡ false → Handed r list (refused edition) → HandsOver e r list out answer out'
      → TimedSays (program_timed e b map_file scenario_file) out answer out'
  unfolding program_timed printed_timed
  edition-says k h p = rw k (p.hands (refused edition) h)

  pub known-says : is_known e ≡ true → Handed r list (short_or b (program_answer map_file scenario_file)) → HandsOver e r list out answer out'
      → TimedSays (program_timed e b map_file scenario_file) out answer out'
  unfolding program_timed
  known-says k h p = rw k (p.hands (short_or b (program_answer map_file scenario_file)) h)
