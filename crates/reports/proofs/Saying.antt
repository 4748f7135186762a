-- What slots and report say, way out by way out: the check's refusal first; once it has passed the plan's numbers fit the tables,
-- and the rest is what the passes give.
use Rattle.std.proofs.Common.{Err, Ok}
use mathlib.Core.Path.{◌≡◌, sym, ◌∙◌, ap}
use mathlib.Core.Bool.{true, false}
use mathlib.Core.List.{List, ◌++◌}
use mathlib.Core.Option.{none, some}
use Prim.Native.Nat.{ℕ, ◌<◌, ◌≤◌}
use borrow.Author.Tests.{lt-ltb, le-ltb}
use lib.Dec.{ltb}
use lib.ListN.{length, drop}
use Rattle.paper.specs.Basics.{◌or◌}
use Rattle.paper.specs.Limits.{most_bays}
use Rattle.paper.specs.Yard.{crossings, most_crossings}
use Rattle.paper.specs.Order.{Order}
use Rattle.paper.specs.Dependence.{slots as slots_of}
use Rattle.paper.specs.Answers.{accept, tell, marks_after, check, slots_refusal, slots_end, report}
use Rattle.paper.specs.OnePass.{Fits}
use Rattle.paper.proofs.Tests.{or_left, or-neither}
use Rattle.paper.proofs.Admitted.{clean_of}
use Rattle.paper.proofs.Checking.{check-passed}
use Rattle.paper.proofs.Reporting.{marks-long, tell-facts}
use Rattle.laws.proofs.Handing.{check-fits}
use Rattle.docket.specs.Reading.{refusal_of}
use Rattle.docket.specs.declared.Refusal.{Refusal}
use Rattle.docket.specs.declared.Refusal.TheVariants.{Room}
use Rattle.marks.specs.Reading.{report_of}
use Rattle.marks.specs.declared.Reported.{Reported}
use Rattle.marks.specs.declared.Reported.TheVariants as told
use Rattle.reports.specs.Statements.{SlotsSay, ReportSays}

-- an accepted name has a mark
pub has-mark : (plan marks : List ℕ) (name : ℕ) → tell (crossings plan) marks name ≡ accept → name < length marks
has-mark plan marks name h =
    let f = tell-facts (crossings plan) marks name h in
    rw (marks-long (crossings plan) marks f.0) f.1

module _ (o : Order) (plan : List ℕ) where
  pub slots_refused : (out : List ℕ) (r : Refusal) → some (refusal_of r) ≡ check o plan → SlotsSay o plan out (Err r) out
  unfolding slots_refusal slots_end
  slots_refused out r h = record { answers = rw (← h); leaves = rw (← h) }

  pub report-refused : (marks : List ℕ) (name : ℕ) (r : Refusal) → some (refusal_of r) ≡ check o plan
      → ReportSays o plan marks name (told.Refused r) marks
  unfolding report marks_after
  report-refused marks name r h = record { answers = rw (← h); leaves = rw (← h) }

  module _ (passes : none ≡ check o plan) where
    pub fits : Fits most_bays most_bays plan
    fits = check-fits o plan (sym passes)

    pub short : length plan ≤ most_crossings
    short = (clean_of o (length plan) (check-passed o plan (sym passes)).sound).sizes.short-plan

    pub slots-room : (out : List ℕ) → length out < length plan → SlotsSay o plan out (Err (Room (length plan))) out
    unfolding slots_refusal slots_end
    slots-room out h =
        let over : (ltb (length out) (length plan) or ltb most_crossings (length plan)) ≡ true = or_left _ _ (lt-ltb (length out) (length plan) h) in
        record { answers = rw (← passes, over); leaves = rw (← passes, over) }

    pub slots_written : (out out' : List ℕ) → length plan ≤ length out → out' ≡ slots_of (crossings plan) ++ drop (length plan) out
        → SlotsSay o plan out (Ok tt) out'
    unfolding slots_refusal slots_end
    slots_written out out' h e =
        let room : (ltb (length out) (length plan) or ltb most_crossings (length plan)) ≡ false =
        or-neither _ _ (le-ltb (length out) (length plan) h) (le-ltb most_crossings (length plan) short) in
        record { answers = rw (← passes, room); leaves = rw (← passes, room) e }

    pub report-told : (marks : List ℕ) (name : ℕ) (answer : Reported) (marks' : List ℕ)
        → report_of answer ≡ tell (crossings plan) marks name → marks' ≡ marks_after marks name (report_of answer)
        → ReportSays o plan marks name answer marks'
    unfolding report
    report-told marks name answer marks' e m = record {
      answers = rw (← passes) e;
      leaves = rw (← passes) (m ∙ ap (marks_after marks name) e);
    }
