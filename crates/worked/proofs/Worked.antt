-- The yards worked by hand: Y1 to Y9, which the document marks *, computed together; then Y11 and cases of our own, where the lowest
-- and the first differ from the highest and the last. Y10 is crates/paper/proofs/Limits. Assumes nothing.
use mathlib.Core.Path.{◌≡◌, refl}
use mathlib.Core.List.{List, [], ◌∷◌, ◌++◌, map}
use mathlib.Core.Option.{Option, none, some}
use Prim.Native.Nat.{ℕ}
use Rattle.paper.specs.Yard.{Bay, Placement, Crossing, crossing, pack}
use Rattle.paper.specs.Dependence.{slots, fresh}
use Rattle.paper.specs.Docket.{crowd, stopped, unknown, early, Refusal, mismarked, missed, illegal}
use Rattle.paper.specs.Answers.{Answer, accepted, refused, plan, plan_end, check, Report, accept, already, refuse, report}
use Rattle.paper.specs.Log.{Request, reports}
use Rattle.paper.specs.Basics
use Rattle.paper.specs.Yard
use Rattle.paper.specs.Order.{Order, order}
use Rattle.paper.specs.Path
use Rattle.paper.specs.Procedure
use Rattle.paper.specs.Dependence
use Rattle.paper.specs.Docket
use Rattle.paper.specs.Answers
use Rattle.paper.specs.Log

-- every definition of the rules, opened, so that the checker computes with them
unfoldable pub computing : Unit {0}
unfolding Basics.◌and◌ Basics.◌or◌ Basics.filter Basics.any Basics.find Basics.concat Basics.first_of Basics.first_bad Basics.lowest_of Basics.elem Basics.place_of Basics.without Basics.count_from Yard.occupied Yard.pack Yard.unpack Yard.reverse_of Yard.after Yard.joined Yard.neighbours Yard.carousel Yard.junction Yard.legal Yard.legal_plan Path.next_ring Path.rings_from Path.ring_of Path.inward Path.shortest_path Path.path_between Procedure.◌then◌ Procedure.cross Procedure.shift Procedure.nearest_empty Procedure.vacate Procedure.exchange Procedure.trade Procedure.undo Procedure.bring Procedure.clearing Procedure.clear_once Procedure.aside Procedure.around Procedure.first_kept Procedure.go_on Procedure.gone_on Procedure.clear Procedure.finish Procedure.trial_led Procedure.trial Procedure.swap Procedure.step Procedure.or_stuck Procedure.onward Procedure.◌next◌ Procedure.go Procedure.home_at Procedure.way_home Procedure.along Procedure.carry Procedure.carry_from Procedure.procedure Dependence.depend Dependence.highest Dependence.slots_after Dependence.slots Dependence.undone_before Dependence.out_of_order Dependence.done_of Dependence.undone_of Dependence.count_of Docket.rails_of Docket.bad_size Docket.bad_rail Docket.apart_bay Docket.bad_place Docket.first_illegal Docket.not_home Docket.bad_marks Answers.first_six Answers.crossings_of Answers.within Answers.unless Answers.plan Answers.written Answers.accepts Answers.tell Answers.marks_after Answers.check Answers.slots_refusal Answers.slots_end Answers.report Log.reports Log.marks_from Log.names_from Path.fewer Path.choice Path.nearest_of Answers.parked_of Answers.beside Answers.plan_parked
computing = tt

-- a yard, and the names then reported one after the other from fresh marks
pub record Case : Type 0 where
  pub order : Order
  pub names : List ℕ

-- the planner's answer with room for 8,192 crossings, the plan's slots, and the answers to the reports
pub record Said : Type 0 where
  pub answer : Answer
  pub slots : List ℕ
  pub reports : List Report

abbrev pub plan_of : Answer → List Crossing
plan_of (accepted xs) = xs
plan_of (refused r) = []

abbrev pub request : Case → ℕ → Request
request c i = record { order = c.order; name = i }

abbrev pub computed : Case → Said
computed c =
    let a = plan c.order 8192 in
    let lent = map pack (plan_of a) in
    record { answer = a; slots = slots (plan_of a); reports = reports lent (fresh lent) (map (request c) c.names) }

-- a case beside what the document says of it
pub record Worked : Type 0 where
  pub given : Case
  pub said : Said

abbrev worked : Order → List ℕ → Answer → List ℕ → List Report → Worked
worked o ns a ss rs =
    record { given = record { order = o; names = ns }; said = record { answer = a; slots = ss; reports = rs } }

-- yard "T", a line of four, a ring of four, a line of six
abbrev pub T : List Bay
T = 0 ∷ 1 ∷ 1 ∷ 2 ∷ 1 ∷ 3 ∷ []

abbrev line-4 : List Bay
line-4 = 0 ∷ 1 ∷ 1 ∷ 2 ∷ 2 ∷ 3 ∷ []

abbrev ring-4 : List Bay
ring-4 = 0 ∷ 1 ∷ 1 ∷ 2 ∷ 2 ∷ 3 ∷ 3 ∷ 0 ∷ []

abbrev line-6 : List Bay
line-6 = 0 ∷ 1 ∷ 1 ∷ 2 ∷ 2 ∷ 3 ∷ 3 ∷ 4 ∷ 4 ∷ 5 ∷ []

abbrev pub Y1-plan : List Crossing
Y1-plan = crossing 0 1 2 ∷ crossing 1 0 1 ∷ crossing 1 1 3 ∷ crossing 0 2 1 ∷ crossing 0 1 0 ∷ crossing 1 3 1 ∷ []

abbrev Y2-plan : List Crossing
Y2-plan =
    crossing 0 1 2 ∷ crossing 1 0 1 ∷ crossing 1 1 3 ∷ crossing 0 2 1 ∷ crossing 0 1 0 ∷ crossing 1 3 1 ∷ crossing 1 1 2 ∷ crossing 0 0 1 ∷ []

abbrev one-to-six : List ℕ
one-to-six = 1 ∷ 2 ∷ 3 ∷ 4 ∷ 5 ∷ 6 ∷ []

abbrev Y1 : Worked
Y1 = worked (order 4 T (1 ∷ 0 ∷ []) (0 ∷ 1 ∷ [])) [] (accepted Y1-plan) one-to-six []

abbrev Y2 : Worked
Y2 = worked (order 4 T (1 ∷ 0 ∷ []) (1 ∷ 2 ∷ [])) [] (accepted Y2-plan) (1 ∷ 2 ∷ 3 ∷ 4 ∷ 5 ∷ 6 ∷ 7 ∷ 8 ∷ []) []

abbrev Y3 : Worked
Y3 = worked (order 4 line-4 (0 ∷ 1 ∷ []) (1 ∷ 0 ∷ [])) [] (refused (stopped 1)) [] []

abbrev Y4 : Worked
Y4 = worked (order 4 ring-4 (0 ∷ 1 ∷ []) (1 ∷ 0 ∷ [])) []
    (accepted (crossing 1 1 2 ∷ crossing 0 0 1 ∷ crossing 1 2 3 ∷ crossing 1 3 0 ∷ [])) (1 ∷ 2 ∷ 2 ∷ 3 ∷ []) []

abbrev Y5 : Worked
Y5 = worked (order 4 ring-4 (0 ∷ 1 ∷ []) (1 ∷ 2 ∷ [])) [] (accepted (crossing 1 1 2 ∷ crossing 0 0 1 ∷ [])) (1 ∷ 2 ∷ []) []

abbrev Y6 : Worked
Y6 = worked (order 6 line-6 (0 ∷ 5 ∷ []) (1 ∷ 4 ∷ [])) (1 ∷ 0 ∷ 1 ∷ [])
    (accepted (crossing 0 0 1 ∷ crossing 1 5 4 ∷ [])) (1 ∷ 1 ∷ []) (accept ∷ accept ∷ already ∷ [])

abbrev Y7 : Worked
Y7 = worked (order 4 T (1 ∷ 0 ∷ []) (0 ∷ 1 ∷ [])) (1 ∷ 6 ∷ 0 ∷ 0 ∷ [])
    (accepted Y1-plan) one-to-six (refuse (early 0) ∷ refuse unknown ∷ accept ∷ already ∷ [])

abbrev Y8 : Worked
Y8 = worked (order 2 (0 ∷ 1 ∷ []) [] []) [] (accepted []) [] []

abbrev Y9 : Worked
Y9 = worked (order 2 (0 ∷ 1 ∷ []) (0 ∷ []) (1 ∷ [])) [] (refused crowd) [] []

abbrev pub yards : List Worked
yards = Y1 ∷ Y2 ∷ Y3 ∷ Y4 ∷ Y5 ∷ Y6 ∷ Y7 ∷ Y8 ∷ Y9 ∷ []

-- What the definitions give for each yard is what the document says of it.
pub all-worked : map (λ w. computed w.given) yards ≡ map (λ w. w.said) yards
unfolding computing
all-worked = refl

-- Y11: Y1 with room for five is 8 carrying 6, list unchanged; with room for seven the last place is left alone.
pub room-for-five : (plan_end (order 4 T (1 ∷ 0 ∷ []) (0 ∷ 1 ∷ [])) (7 ∷ 7 ∷ 7 ∷ 7 ∷ 7 ∷ [])
    ∷ plan_end (order 4 T (1 ∷ 0 ∷ []) (0 ∷ 1 ∷ [])) (7 ∷ 7 ∷ 7 ∷ 7 ∷ 7 ∷ 7 ∷ 7 ∷ [])
    ∷ [])
    ≡ (7 ∷ 7 ∷ 7 ∷ 7 ∷ 7 ∷ []) ∷ (map pack Y1-plan ++ (7 ∷ [])) ∷ []
unfolding computing
room-for-five = refl

-- ## Clearing goes on

-- a triangle of bays 0, 1, 2, with bay 3 beside 0 and bay 4 beside 1; carrier 2 stands at 2, and carriers 0 and 1 trade bays 0 and 3
abbrev triangle : List Bay
triangle = 0 ∷ 1 ∷ 0 ∷ 2 ∷ 0 ∷ 3 ∷ 1 ∷ 2 ∷ 1 ∷ 4 ∷ []

-- At junction 0 bay 1 alone is kept: the carrier at 2 goes to 1, and from there to 4.
abbrev saved-aside : Worked
saved-aside = worked (order 5 triangle (0 ∷ 3 ∷ 2 ∷ []) (3 ∷ 0 ∷ 2 ∷ [])) []
    (accepted (crossing 2 2 1 ∷ crossing 2 1 4 ∷ crossing 0 0 1 ∷ crossing 1 3 0 ∷ crossing 1 0 2 ∷ crossing 0 1 0 ∷ crossing 0 0 3 ∷ crossing 1 2 0 ∷ crossing 2 4 1 ∷ crossing 2 1 2 ∷ []))
    (1 ∷ 2 ∷ 3 ∷ 4 ∷ 5 ∷ 6 ∷ 7 ∷ 8 ∷ 7 ∷ 9 ∷ []) []

-- At junction 1, the follower at 0, bay 4 alone is kept: the two go forth to 4 and 1, the carrier at 2 goes to 0 and from there to 3, and the two go back.
abbrev saved-around : Worked
saved-around = worked (order 5 triangle (3 ∷ 0 ∷ 2 ∷ []) (0 ∷ 3 ∷ 2 ∷ [])) []
    (accepted (crossing 1 0 1 ∷ crossing 0 3 0 ∷ crossing 1 1 4 ∷ crossing 0 0 1 ∷ crossing 2 2 0 ∷ crossing 2 0 3 ∷ crossing 0 1 0 ∷ crossing 1 4 1 ∷ crossing 1 1 2 ∷ crossing 0 0 1 ∷ crossing 0 1 4 ∷ crossing 1 2 1 ∷ crossing 1 1 0 ∷ crossing 0 4 1 ∷ crossing 0 1 4 ∷ crossing 1 0 1 ∷ crossing 2 3 0 ∷ crossing 2 0 2 ∷ crossing 1 1 0 ∷ crossing 0 4 1 ∷ crossing 1 0 3 ∷ crossing 0 1 0 ∷ []))
    (1 ∷ 2 ∷ 2 ∷ 3 ∷ 4 ∷ 5 ∷ 6 ∷ 7 ∷ 8 ∷ 9 ∷ 10 ∷ 11 ∷ 12 ∷ 13 ∷ 14 ∷ 15 ∷ 16 ∷ 17 ∷ 18 ∷ 19 ∷ 19 ∷ 20 ∷ []) []

-- The two ways each save a yard in which clearing once is not enough.
pub ways-worked : map (λ w. computed w.given) (saved-aside ∷ saved-around ∷ []) ≡ map (λ w. w.said) (saved-aside ∷ saved-around ∷ [])
unfolding computing
ways-worked = refl

-- T, start 1,0, goal 0,1: what the check says of these plans
abbrev checked : List Crossing → Option Refusal
checked xs = check (order 4 T (1 ∷ 0 ∷ []) (0 ∷ 1 ∷ [])) (map pack xs)

pub all-checked : (checked Y1-plan
    ∷ checked []
    ∷ checked (crossing 0 1 2 ∷ crossing 0 2 3 ∷ crossing 5 0 1 ∷ [])
    ∷ checked (crossing 0 1 0 ∷ [])
    ∷ checked (crossing 0 1 2 ∷ crossing 1 0 1 ∷ [])
    ∷ [])
    ≡ none ∷ some (missed 0) ∷ some (illegal 1) ∷ some (illegal 0) ∷ some (missed 0) ∷ []
unfolding computing
all-checked = refl

-- and reports on Y1's plan with these marks
abbrev told : List ℕ → ℕ → Report
told ms i = report (order 4 T (1 ∷ 0 ∷ []) (0 ∷ 1 ∷ [])) (map pack Y1-plan) ms i

pub all_told : (told (1 ∷ 0 ∷ 0 ∷ 0 ∷ 0 ∷ 0 ∷ []) 5
    ∷ told (1 ∷ 1 ∷ 1 ∷ 1 ∷ 1 ∷ 0 ∷ []) 5
    ∷ told (1 ∷ 1 ∷ 1 ∷ 1 ∷ 1 ∷ 1 ∷ []) 5
    ∷ told (0 ∷ 1 ∷ 0 ∷ 0 ∷ 0 ∷ 0 ∷ []) 0
    ∷ told (2 ∷ 0 ∷ 0 ∷ 0 ∷ 0 ∷ 0 ∷ []) 0
    ∷ told (0 ∷ 0 ∷ 0 ∷ 0 ∷ 0 ∷ []) 0
    ∷ [])
    ≡ refuse (early 1) ∷ accept ∷ already ∷ refuse mismarked ∷ refuse mismarked ∷ refuse mismarked ∷ []
unfolding computing
all_told = refl

-- Beside bay 0 are 1, a junction, and 2 and 3, where tracks end: which is filled while all are empty, while 2 is not, while only 1 is.
abbrev beside-0 : Yard.Yard
beside-0 = record { bays = 6; rails = (0, 1) ∷ (0, 2) ∷ (0, 3) ∷ (1, 4) ∷ (1, 5) ∷ [] }

pub all-parked : map (λ (p : Placement). Procedure.nearest_empty beside-0 [] p 0) ((0 ∷ []) ∷ (0 ∷ 2 ∷ []) ∷ (0 ∷ 2 ∷ 3 ∷ []) ∷ []) ≡ some 2 ∷ some 3 ∷ some 1 ∷ []
unfolding computing
all-parked = refl
