-- Record and lines worked out by hand for one plan, and computed here: afresh, after one report, and each answer in its turn.
-- Assumes nothing.
use mathlib.Core.Path.{◌≡◌, refl}
use mathlib.Core.List.{List, [], ◌∷◌, map}
use mathlib.Core.Option.{none, some}
use Prim.Native.Nat.{ℕ, ◌-◌}
use lib.ListN.{replicate}
use Rattle.paper.specs.Limits.{most_bays}
use Rattle.paper.specs.Yard.{Bay, Placement, Crossing, crossing, pack}
use Rattle.paper.specs.Order.{order}
use Rattle.paper.specs.Dependence.{slots, fresh}
use Rattle.paper.specs.Docket.{mismarked, unknown, early, disagrees, room, missed}
use Rattle.paper.specs.Answers.{Report, accept, already, refuse, check}
use Rattle.paper.specs.Log.{Request}
use Rattle.worked.proofs.Worked.{computing}
use Rattle.bills.specs.Billing
use Rattle.bills.specs.Billing.{untouched, record_of, lines_of, posted, entered}
use Rattle.bills.specs.Answering
use Rattle.bills.specs.Answering.{agrees, differs, refused, opening, agreement, billing}
use Rattle.bills.specs.Keeping
use Rattle.bills.specs.Keeping.{fresh_books, books_from, billed_from}
use Rattle.bills.specs.declared.Record.{Record}
use Rattle.bills.specs.declared.Line.{Line}

-- every definition of the request opened, so that the checker computes with them
unfoldable pub computing-bills : Unit {0}
unfolding computing Billing.highest_done Billing.last_done Answering.same_numbers Answering.same_lines Answering.up_to_eleven Answering.opening Answering.opened_record Answering.opened_lines Answering.agree Answering.agreement Answering.billing Answering.then_marks Answering.then_record Answering.then_lines Keeping.books_from Keeping.billed_from
computing-bills = tt

-- A line of seven bays, carriers at 0, 3 and 6. Carrier 0 steps aside and back, then carrier 1 comes up behind it; carrier 2 is alone.
abbrev line-7 : List Bay
line-7 = 0 ∷ 1 ∷ 1 ∷ 2 ∷ 2 ∷ 3 ∷ 3 ∷ 4 ∷ 4 ∷ 5 ∷ 5 ∷ 6 ∷ []

abbrev starts : Placement
starts = 0 ∷ 3 ∷ 6 ∷ []

abbrev goals : Placement
goals = 0 ∷ 1 ∷ 5 ∷ []

abbrev xs : List Crossing
xs = crossing 0 0 1 ∷ crossing 2 6 5 ∷ crossing 1 3 2 ∷ crossing 0 1 0 ∷ crossing 1 2 1 ∷ []

abbrev plan : List ℕ
plan = map pack xs

abbrev standing : ℕ → ℕ → ℕ → ℕ → ℕ → Record
standing a b c done highest = record { at = a ∷ b ∷ c ∷ replicate (most_bays - 3) 0; done = done; highest = highest }

abbrev line : ℕ → ℕ → ℕ → Line
line c billed last = record { carrier = c; billed = billed; last = last }

-- 3 depends on 0, and 4 on 0, 2 and 3
pub its-slots : (slots xs ≡ 1 ∷ 1 ∷ 1 ∷ 2 ∷ 3 ∷ []) × (check (order 7 line-7 starts goals) plan ≡ none)
unfolding computing-bills
its-slots = (refl, refl)

-- fresh; 0 and 2 done; 0, 2 and 3 done; all done
pub all-records : map (record_of starts xs) ((0 ∷ 0 ∷ 0 ∷ 0 ∷ 0 ∷ []) ∷ (1 ∷ 0 ∷ 1 ∷ 0 ∷ 0 ∷ []) ∷ (1 ∷ 0 ∷ 1 ∷ 1 ∷ 0 ∷ []) ∷ (1 ∷ 1 ∷ 1 ∷ 1 ∷ 1 ∷ []) ∷ [])
    ≡ standing 0 3 6 0 0 ∷ standing 1 2 6 2 1 ∷ standing 0 2 6 3 2 ∷ standing 0 1 5 5 3 ∷ []
unfolding computing-bills
all-records = refl

pub all_lines : map (lines_of 3 xs) ((0 ∷ 0 ∷ 0 ∷ 0 ∷ 0 ∷ []) ∷ (1 ∷ 0 ∷ 1 ∷ 0 ∷ 0 ∷ []) ∷ (1 ∷ 0 ∷ 1 ∷ 1 ∷ 0 ∷ []) ∷ (1 ∷ 1 ∷ 1 ∷ 1 ∷ 1 ∷ []) ∷ [])
    ≡ (line 0 0 untouched ∷ line 1 0 untouched ∷ line 2 0 untouched ∷ [])
    ∷ (line 0 1 0 ∷ line 1 1 2 ∷ line 2 0 untouched ∷ [])
    ∷ (line 0 2 3 ∷ line 1 1 2 ∷ line 2 0 untouched ∷ [])
    ∷ (line 0 2 3 ∷ line 1 2 4 ∷ line 2 1 1 ∷ [])
    ∷ []
unfolding computing-bills
all_lines = refl

-- 3 accepted with 0 and 2 done, in place; then 1, whose slot is lower than the highest
pub in_place : (posted (standing 1 2 6 2 1) (crossing 0 1 0) 2 ≡ standing 0 2 6 3 2)
    × (entered (line 0 1 0 ∷ line 1 1 2 ∷ line 2 0 untouched ∷ []) (crossing 0 1 0) 3 ≡ line 0 2 3 ∷ line 1 1 2 ∷ line 2 0 untouched ∷ [])
    × (posted (standing 0 2 6 3 2) (crossing 2 6 5) 1 ≡ standing 0 2 5 4 2)
unfolding computing-bills
in_place = (refl, refl, refl)

-- 0 and 2 done: marks, record and lines as they are then
abbrev marks : List ℕ
marks = 1 ∷ 0 ∷ 1 ∷ 0 ∷ 0 ∷ []

abbrev rec : Record
rec = standing 1 2 6 2 1

abbrev lines : List Line
lines = line 0 1 0 ∷ line 1 1 2 ∷ line 2 0 untouched ∷ []

abbrev reported : Placement → List ℕ → Record → List Line → ℕ → Report
reported goals marks rec lines name = billing (order 7 line-7 starts goals) plan marks rec lines name

-- 10 and 11 come before 19, and 19 before 12, "already" and 13; a place, the number done, the highest slot, a count, a last name or a length that is wrong is 19
pub all-answered : (reported goals marks rec lines 3
    ∷ reported goals marks rec lines 1
    ∷ reported goals marks rec lines 0
    ∷ reported goals marks rec lines 4
    ∷ reported goals marks rec lines 5
    ∷ reported goals marks (standing 1 2 5 2 1) lines 3
    ∷ reported goals marks (standing 1 2 6 1 1) lines 0
    ∷ reported goals marks (standing 1 2 6 2 2) lines 4
    ∷ reported goals marks rec (line 0 1 0 ∷ line 1 2 2 ∷ line 2 0 untouched ∷ []) 5
    ∷ reported goals marks rec (line 0 1 0 ∷ line 1 1 2 ∷ line 2 0 0 ∷ []) 3
    ∷ reported goals marks rec (line 0 1 0 ∷ line 1 1 2 ∷ []) 3
    ∷ reported goals (0 ∷ 0 ∷ 1 ∷ 1 ∷ 0 ∷ []) rec [] 3
    ∷ reported (0 ∷ 1 ∷ 6 ∷ []) (0 ∷ 0 ∷ 1 ∷ 1 ∷ 0 ∷ []) rec [] 3
    ∷ [])
    ≡ accept
    ∷ accept
    ∷ already
    ∷ refuse (early 3)
    ∷ refuse unknown
    ∷ refuse disagrees
    ∷ refuse disagrees
    ∷ refuse disagrees
    ∷ refuse disagrees
    ∷ refuse disagrees
    ∷ refuse disagrees
    ∷ refuse mismarked
    ∷ refuse (missed 2)
    ∷ []
unfolding computing-bills
all-answered = refl

pub all_tested : (agreement (order 7 line-7 starts goals) plan marks rec lines
    ∷ agreement (order 7 line-7 starts goals) plan (fresh plan) rec lines
    ∷ agreement (order 7 line-7 starts goals) plan [] rec lines
    ∷ [])
    ≡ agrees ∷ differs ∷ refused mismarked ∷ []
unfolding computing-bills
all_tested = refl

pub all-opened : (opening (order 7 line-7 starts goals) plan marks 3
    ∷ opening (order 7 line-7 starts goals) plan marks 2
    ∷ opening (order 7 line-7 starts goals) plan marks 4
    ∷ opening (order 7 line-7 starts goals) plan [] 4
    ∷ [])
    ≡ none ∷ some (room 3) ∷ some (room 3) ∷ some mismarked ∷ []
unfolding computing-bills
all-opened = refl

-- reported from fresh: 3 too early, 2, 2 again, 0, 3, 1, 4
abbrev request : ℕ → Request
request i = record { order = order 7 line-7 starts goals; name = i }

abbrev names : List ℕ
names = 3 ∷ 2 ∷ 2 ∷ 0 ∷ 3 ∷ 1 ∷ 4 ∷ []

pub all-run : (billed_from plan (fresh_books plan starts) (map request names) ≡ 2 ∷ 0 ∷ 3 ∷ 1 ∷ 4 ∷ [])
    × (books_from plan (fresh_books plan starts) (map request names)
    ≡ record { marks = 1 ∷ 1 ∷ 1 ∷ 1 ∷ 1 ∷ []; running = standing 0 1 5 5 3; lines = line 0 2 3 ∷ line 1 2 4 ∷ line 2 1 1 ∷ [] })
unfolding computing-bills
all-run = (refl, refl)
