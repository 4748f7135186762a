-- The table spelled out, one law a number: the refusal is given exactly if its row's words hold and none of the rows tested before it applies.
-- `take d rows` are the first d rows of the list.
use mathlib.Core.Path.{◌≡◌, refl}
use mathlib.Core.List.{List}
use mathlib.Core.Logic.Iff
use mathlib.Core.Logic.{◌↔◌}
use mathlib.Core.Option.{none, some}
use Prim.Native.Nat.{ℕ}
use lib.ListN.{length, take, drop}
use Rattle.paper.specs.Basics.{elem}
use Rattle.paper.specs.Yard.{crossings, after}
use Rattle.paper.specs.Order.{Order}
use Rattle.paper.specs.Procedure.{stuck, procedure}
use Rattle.paper.specs.Docket.{size, rail, apart, crowd, start, goal, stopped, room, illegal, missed, mismarked, unknown, early, yard_of}
use Rattle.paper.specs.Answers.{refused, plan, check, slots_refusal, already, refuse, report}
use Rattle.exactly.specs.First.{NoneOf}
use Rattle.exactly.specs.Words.{WrongSize, FirstBadRail, LowestApart, Crowded, FirstBadPlace, TooLong, FirstIllegal, LowestAway, mark, BadMarks, NotInPlan, LowestUndone}
use Rattle.exactly.specs.Rows.{six, NoRoom, plan_rows, check_rows, slots_rows, mark_rows, report_rows}
use Rattle.exactly.proofs.First.{given-past}
use Rattle.exactly.proofs.Planning.{plan-refuses}
use Rattle.exactly.proofs.Checking.{check-refuses, slots-refuse}
use Rattle.exactly.proofs.Reporting.{report-refuses, report-already}

module _ (o : Order) where
  -- ## Planning

  module _ (lent : ℕ) where
    pub plan-1 : (plan o lent ≡ refused size) ↔ WrongSize o 0
    plan-1 = plan-refuses o lent size

    pub plan-2 : (i : ℕ) → (plan o lent ≡ refused (rail i)) ↔ (NoneOf (take 1 (six o 0)) × FirstBadRail o.bays o.ends i)
    unfolding elem
    plan-2 i =
        Iff.trans (plan-refuses o lent (rail i))
        (given-past (take 1 (six o 0)) (drop 1 (plan_rows o lent)) 2 (some i) refl)

    pub plan-3 : (b : ℕ) → (plan o lent ≡ refused (apart b)) ↔ (NoneOf (take 2 (six o 0)) × LowestApart o b)
    unfolding elem
    plan-3 b =
        Iff.trans (plan-refuses o lent (apart b))
        (given-past (take 2 (six o 0)) (drop 2 (plan_rows o lent)) 3 (some b) refl)

    pub plan-4 : (plan o lent ≡ refused crowd) ↔ (NoneOf (take 3 (six o 0)) × Crowded o.bays o.starts)
    unfolding elem
    plan-4 =
        Iff.trans (plan-refuses o lent crowd)
        (given-past (take 3 (six o 0)) (drop 3 (plan_rows o lent)) 4 none refl)

    pub plan-5 : (c : ℕ) → (plan o lent ≡ refused (start c))
        ↔ (NoneOf (take 4 (six o 0)) × FirstBadPlace o.bays o.starts c)
    unfolding elem
    plan-5 c =
        Iff.trans (plan-refuses o lent (start c))
        (given-past (take 4 (six o 0)) (drop 4 (plan_rows o lent)) 5 (some c) refl)

    pub plan-6 : (c : ℕ) → (plan o lent ≡ refused (goal c))
        ↔ (NoneOf (take 5 (six o 0)) × FirstBadPlace o.bays o.goals c)
    unfolding elem
    plan-6 c =
        Iff.trans (plan-refuses o lent (goal c))
        (given-past (take 5 (six o 0)) (drop 5 (plan_rows o lent)) 6 (some c) refl)

    pub plan-7 : (c : ℕ) → (plan o lent ≡ refused (stopped c))
        ↔ (NoneOf (six o 0) × (procedure (yard_of o) o.goals o.starts ≡ stuck c))
    unfolding elem
    plan-7 c =
        Iff.trans (plan-refuses o lent (stopped c))
        (given-past (six o 0) (drop 6 (plan_rows o lent)) 7 (some c) refl)

    pub plan-8 : (m : ℕ) → (plan o lent ≡ refused (room m))
        ↔ (NoneOf (take 7 (plan_rows o lent)) × NoRoom o lent m)
    unfolding elem
    plan-8 m =
        Iff.trans (plan-refuses o lent (room m))
        (given-past (take 7 (plan_rows o lent)) (drop 7 (plan_rows o lent)) 8 (some m) refl)

  -- ## The check and slots

  module _ (crossed : List ℕ) where
    pub check-1 : (check o crossed ≡ some size) ↔ WrongSize o (length crossed)
    check-1 = check-refuses o crossed size

    pub check-2 : (i : ℕ) → (check o crossed ≡ some (rail i))
        ↔ (NoneOf (take 1 (six o (length crossed))) × FirstBadRail o.bays o.ends i)
    unfolding elem
    check-2 i =
        Iff.trans (check-refuses o crossed (rail i))
        (given-past (take 1 (six o (length crossed))) (drop 1 (check_rows o crossed)) 2 (some i) refl)

    pub check-3 : (b : ℕ) → (check o crossed ≡ some (apart b))
        ↔ (NoneOf (take 2 (six o (length crossed))) × LowestApart o b)
    unfolding elem
    check-3 b =
        Iff.trans (check-refuses o crossed (apart b))
        (given-past (take 2 (six o (length crossed))) (drop 2 (check_rows o crossed)) 3 (some b) refl)

    pub check-4 : (check o crossed ≡ some crowd) ↔ (NoneOf (take 3 (six o (length crossed))) × Crowded o.bays o.starts)
    unfolding elem
    check-4 =
        Iff.trans (check-refuses o crossed crowd)
        (given-past (take 3 (six o (length crossed))) (drop 3 (check_rows o crossed)) 4 none refl)

    pub check-5 : (c : ℕ) → (check o crossed ≡ some (start c))
        ↔ (NoneOf (take 4 (six o (length crossed))) × FirstBadPlace o.bays o.starts c)
    unfolding elem
    check-5 c =
        Iff.trans (check-refuses o crossed (start c))
        (given-past (take 4 (six o (length crossed))) (drop 4 (check_rows o crossed)) 5 (some c) refl)

    pub check-6 : (c : ℕ) → (check o crossed ≡ some (goal c))
        ↔ (NoneOf (take 5 (six o (length crossed))) × FirstBadPlace o.bays o.goals c)
    unfolding elem
    check-6 c =
        Iff.trans (check-refuses o crossed (goal c))
        (given-past (take 5 (six o (length crossed))) (drop 5 (check_rows o crossed)) 6 (some c) refl)

    pub check-9 : (i : ℕ) → (check o crossed ≡ some (illegal i))
        ↔ (NoneOf (six o (length crossed)) × FirstIllegal (yard_of o) o.starts (crossings crossed) i)
    unfolding elem
    check-9 i =
        Iff.trans (check-refuses o crossed (illegal i))
        (given-past (six o (length crossed)) (drop 6 (check_rows o crossed)) 9 (some i) refl)

    pub check-10 : (c : ℕ) → (check o crossed ≡ some (missed c))
        ↔ (NoneOf (take 7 (check_rows o crossed)) × LowestAway o.goals (after o.starts (crossings crossed)) c)
    unfolding elem
    check-10 c =
        Iff.trans (check-refuses o crossed (missed c))
        (given-past (take 7 (check_rows o crossed)) (drop 7 (check_rows o crossed)) 10 (some c) refl)

    pub slots-8 : (lent m : ℕ) → (slots_refusal o crossed lent ≡ some (room m))
        ↔ (NoneOf (check_rows o crossed) × ((m ≡ length crossed) × TooLong lent (length crossed)))
    unfolding elem
    slots-8 lent m =
        Iff.trans (slots-refuse o crossed lent (room m))
        (given-past (check_rows o crossed) (drop 8 (slots_rows o crossed lent)) 8 (some m) refl)

    -- ## A report

    module _ (marks : List ℕ) (name : ℕ) where
      pub report-11 : (report o crossed marks name ≡ refuse mismarked)
          ↔ (NoneOf (check_rows o crossed) × BadMarks (crossings crossed) marks)
      unfolding elem
      report-11 =
          Iff.trans (report-refuses o crossed marks name mismarked)
          (given-past (check_rows o crossed) (drop 8 (report_rows o crossed marks name)) 11 none refl)

      pub report-12 : (report o crossed marks name ≡ refuse unknown)
          ↔ (NoneOf (mark_rows o crossed marks) × NotInPlan (crossings crossed) name)
      unfolding elem
      report-12 =
          Iff.trans (report-refuses o crossed marks name unknown)
          (given-past (mark_rows o crossed marks) (drop 9 (report_rows o crossed marks name)) 12 none refl)

      pub report-again : (report o crossed marks name ≡ already)
          ↔ (NoneOf (take 10 (report_rows o crossed marks name)) × (mark marks name ≡ 1))
      unfolding elem
      report-again =
          Iff.trans (report-already o crossed marks name)
          (given-past (take 10 (report_rows o crossed marks name)) (drop 10 (report_rows o crossed marks name)) 100 none refl)

      pub report-13 : (e : ℕ) → (report o crossed marks name ≡ refuse (early e))
          ↔ (NoneOf (take 11 (report_rows o crossed marks name)) × LowestUndone (crossings crossed) marks name e)
      unfolding elem
      report-13 e =
          Iff.trans (report-refuses o crossed marks name (early e))
          (given-past (take 11 (report_rows o crossed marks name)) (drop 11 (report_rows o crossed marks name)) 13 (some e) refl)
