-- Demand 3 of the code's own `report`: of every run of it from fresh marks, whatever answers and marks its statement allows.
-- It holds since the statement allows one answer only, the paper's, so a run is the paper's run.
use Rattle.std.specs.Prelude.{if◌then◌else◌}
use mathlib.Core.Path.{◌≡◌, refl, ◌∙◌, ap}
use mathlib.Core.Bool.{true, false}
use mathlib.Core.Logic.{◌↔◌}
use mathlib.Core.List.{List, [], ◌∷◌, map}
use mathlib.Core.Option.{none}
use Prim.Native.Nat.{ℕ, ◌<◌}
use lib.ListN.{length}
use Rattle.paper.specs.Basics.{In, NoDup}
use Rattle.paper.specs.Yard.{Carrier, after, legal_plan, crossings, named}
use Rattle.paper.specs.Order.{Order}
use Rattle.paper.specs.Dependence.{is_done, done_of, count_of, fresh}
use Rattle.paper.specs.Docket.{yard_of}
use Rattle.paper.specs.Answers.{check, accepts}
use Rattle.paper.specs.Log.{Request, answer_to, marks_from, names_from, marks_of, names_of}
use Rattle.demands.proofs.Demands.{Demand3, demand-3}
use Rattle.marks.specs.Reading.{report_of}
use Rattle.marks.specs.declared.Reported.{Reported}
use Rattle.marks.specs.declared.Reported.TheVariants.{Accepted, Already, Refused}
use Rattle.marks.proofs.Back.{reports-told-apart}
use Rattle.reports.specs.Statements.{ReportSays}

-- one report on a plan, as the statement of `report` has it
abbrev pub Says : List ℕ → List ℕ → Request → Reported → List ℕ → Type 0
Says plan marks q answer marks' = ReportSays q.order plan marks q.name answer marks'

-- a run of them: each begins with the marks that the last one left
pub data Run (plan : List ℕ) : List ℕ → List Request → List Reported → List ℕ → Type 0 where
  ended : {marks : List ℕ} → Run plan marks [] [] marks
  reported : {marks marks' end : List ℕ} {q : Request} {qs : List Request} {r : Reported} {rs : List Reported}
      → Says plan marks q r marks' → Run plan marks' qs rs end → Run plan marks (q ∷ qs) (r ∷ rs) end

-- the names that a run accepted, in the order accepted
unfoldable pub accepted_in : List Request → List Reported → List ℕ
accepted_in [] rs = []
accepted_in (q ∷ qs) [] = []
accepted_in (q ∷ qs) (Accepted ∷ rs) = q.name ∷ accepted_in qs rs
accepted_in (q ∷ qs) (Already ∷ rs) = accepted_in qs rs
accepted_in (q ∷ qs) (Refused r ∷ rs) = accepted_in qs rs

accepted-cons : (q : Request) (qs : List Request) (r : Reported) (rs : List Reported)
    → accepted_in (q ∷ qs) (r ∷ rs) ≡ (if accepts (report_of r) then q.name ∷ accepted_in qs rs else accepted_in qs rs)
unfolding accepted_in accepts
accepted-cons q qs Accepted rs = refl
accepted-cons q qs Already rs = refl
accepted-cons q qs (Refused r) rs = refl

-- A run leaves the paper's marks and accepts the paper's names.
run_is : {plan marks : List ℕ} {qs : List Request} {rs : List Reported} {end : List ℕ} → Run plan marks qs rs end
    → (end ≡ marks_from plan marks qs) × (accepted_in qs rs ≡ names_from plan marks qs)
unfolding marks_from names_from accepted_in
run_is ended = (refl, refl)
run_is {plan} {marks} (reported {q = q} {qs = qs} {r = r} {rs = rs} s more) =
    let ih = run_is more in (
      ih.0 ∙ ap (λ ms. marks_from plan ms qs) s.leaves,
      accepted-cons q qs r rs
          ∙ ap (λ a. if accepts a then q.name ∷ accepted_in qs rs else accepted_in qs rs) s.answers
          ∙ ap (λ l. if accepts (answer_to plan marks q) then q.name ∷ l else l) (ih.1 ∙ ap (λ ms. names_from plan ms qs) s.leaves),
    )

-- Demand 3 over a run: its requests, its answers and the marks at its end.
pub record Demand3OfRun (o : Order) (plan : List ℕ) (names end : List ℕ) : Type 0 where
  -- the accepted crossings, in the order accepted, are each legal,
  pub lawful : legal_plan (yard_of o) o.starts (map (named (crossings plan)) names) ≡ true
  -- and leave the carriers where those same crossings in plan order would:
  pub same : after o.starts (map (named (crossings plan)) names) ≡ after o.starts (done_of (crossings plan) end)
  -- (those marked done are the accepted ones, each accepted once).
  pub marked : (i : ℕ) → (is_done end i ≡ true) ↔ In i names
  pub once : NoDup names
  -- A repeat changes nothing, whatever it comes with, and with that check's yard, start and goal it answers "already".
  pub repeats : (q : Request) (r : Reported) (end' : List ℕ) → Says plan end q r end' → In q.name names → end' ≡ end
  pub answered : (i : ℕ) (r : Reported) (end' : List ℕ) → ReportSays o plan end i r end' → In i names → r ≡ Already
  -- Whatever is not accepted changes no mark.
  pub unchanged : (q : Request) (r : Reported) (end' : List ℕ) → Says plan end q r end' → (r ≡ Accepted → ⊥) → end' ≡ end
  -- While one is undone, some name would be accepted in a report with that check's yard, start and goal.
  pub goes_on : (i : ℕ) → i < length plan → is_done end i ≡ false
      → (j : ℕ) × ((r : Reported) (end' : List ℕ) → ReportSays o plan end j r end' → r ≡ Accepted)
  -- With all done, every carrier is home and has made its plan's count of crossings.
  pub all_home : ((i : ℕ) → i < length plan → is_done end i ≡ true)
      → (after o.starts (map (named (crossings plan)) names) ≡ o.goals)
      × ((c : Carrier) → count_of c (map (named (crossings plan)) names) ≡ count_of c (crossings plan))

module _ (o : Order) (plan : List ℕ) where
  -- the paper's demand, read over a run
  over-run : (qs : List Request) → Demand3 o plan qs → Demand3OfRun o plan (names_of plan qs) (marks_of plan qs)
  over-run qs d = record {
    lawful = d.lawful;
    same = d.same;
    marked = d.marked;
    once = d.once;
    repeats = λ q r end' s m. s.leaves ∙ d.repeats q m;
    answered = λ i r end' s m. reports-told-apart r Already (s.answers ∙ d.answered i m);
    unchanged = λ q r end' s h. s.leaves ∙ d.unchanged q (λ e. h (reports-told-apart r Accepted (s.answers ∙ e)));
    goes_on = λ i h u. let j = d.goes_on i h u in (j.0, λ r end' s. reports-told-apart r Accepted (s.answers ∙ j.1));
    all_home = d.all_home;
  }

  -- Demand 3, of every run of `report` from fresh marks on a plan that passes the check.
  pub demand-3-of-run : check o plan ≡ none → (qs : List Request) (rs : List Reported) (end : List ℕ)
      → Run plan (fresh plan) qs rs end → Demand3OfRun o plan (accepted_in qs rs) end
  demand-3-of-run passes qs rs end run =
      let e = run_is run in
      rw (e.0, e.1) (over-run qs (demand-3 o plan passes qs))
