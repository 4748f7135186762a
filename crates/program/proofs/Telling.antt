-- The planner's answer, as a verdict, and the list that it leaves: its plan's numbers read as the crossings of the paper's answer.
use Rattle.std.proofs.Common.{Err, Ok}
use mathlib.Core.Path.{◌≡◌, refl, sym, ◌∙◌, ap}
use mathlib.Core.List.{List, ◌++◌, map}
use Prim.Native.Nat.{ℕ, ◌≤◌}
use native.Mathlib.Omega.{arith}
use lib.ListN.{length, take, drop, length-map, length-append}
use lib.Seq.{take_at}
use Rattle.paper.specs.Yard.{Crossing, pack, crossings, most_crossings}
use Rattle.paper.specs.Docket.{Verdict as Told, granted, denied}
use Rattle.paper.specs.Order.{Order}
use Rattle.paper.specs.Answers.{Answer, accepted, refused, told, plan, written}
use Rattle.paper.specs.Program.{program_room}
use Rattle.paper.proofs.Tests.{never}
use Rattle.laws.proofs.Handing.{handed-passes}
use Rattle.docket.specs.Reading.{verdict_of}
use Rattle.planner.specs.Planned.{Planned}
use Rattle.planner.specs.Statement.{PlanSays, planned_of}
use Rattle.planner.specs.Statement as planner
use Rattle.print_room.specs.Printout.{Within, Handed}
use Rattle.print_room.proofs.Telling.{by_answer}
use Rattle.program.specs.Planning.{verdict_in, PlannedIn}

-- the planner's words for an answer, and the verdict that says the same
abbrev spoken : planner.PlanTold → Told
spoken (planner.long m) = granted m
spoken (planner.denied r) = denied r

spoken-answer : (a : Answer) → spoken (planner.told a) ≡ told a
spoken-answer (accepted xs) = refl
spoken-answer (refused r) = refl

spoken-verdict : (r : Planned) → spoken (planned_of r) ≡ verdict_of (verdict_in r)
spoken-verdict (Ok m) = refl
spoken-verdict (Err r) = refl

granted-accepts : (r : Planned) (m : ℕ) → verdict_in r ≡ Ok m → r ≡ Ok m
granted-accepts (Ok k) m e = let y : k ≡ m = cc in ap Ok y
granted-accepts (Err f) m e = never (cc)

module _ {o : Order} {lent : List ℕ} {r : Planned} {lent' : List ℕ} (says : PlanSays o lent r lent') where
  tells : verdict_of (verdict_in r) ≡ told (plan o (length lent))
  tells = sym (spoken-verdict r) ∙ ap spoken says.answers ∙ spoken-answer (plan o (length lent))

  -- where a plan was accepted, its numbers begin the list
  begun : (xs : List Crossing) → plan o (length lent) ≡ accepted xs → lent' ≡ map pack xs ++ drop (length xs) lent
  unfolding written
  begun xs q = says.leaves ∙ rw q refl

  handed-by : Handed (verdict_in r) lent' (plan o (length lent))
  handed-by = record {
    tells = tells;
    stands = λ xs q.
        ap (λ l. crossings (take (length xs) l)) (begun xs q)
        ∙ ap crossings (take_at (map pack xs) (drop (length xs) lent) (length xs) (length-map xs pack))
        ∙ (handed-passes o (length lent) xs q).1;
  }

  within_by : length lent' ≤ most_crossings → Within (verdict_in r) lent'
  within_by h = record {
    inside = λ m e.
        by_answer (plan o (length lent))
        (λ xs q.
        let y : granted m ≡ granted (length xs) = rw (e, q) at tells in
        let k : m ≡ length xs = cc in
        omega (arith, ap length (begun xs q), length-append (map pack xs) (drop (length xs) lent), length-map xs pack))
        (λ f q. let y : granted m ≡ told (refused f) = rw (e, q) at tells in never (cc));
    few = h;
  }

  -- with the room that the program lends
  pub planned-in : program_room ≡ length lent → program_room ≡ length lent' → PlannedIn o (verdict_in r) lent'
  planned-in e h = record {
    handed = rw e handed-by;
    within = within_by (omega arith);
    passes = λ m q. says.passes m (granted-accepts r m q);
    sized = sym h;
  }
