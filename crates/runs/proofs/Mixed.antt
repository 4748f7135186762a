-- Demand 3 over any mix of calls. A billed report that is accepted is one that the paper's report accepts, any other changes nothing, and openings and agreement tests
-- touch no mark: so the marks and names are those of the paper's run of the plain reports and of the billed ones that were accepted.
use Rattle.std.specs.Prelude.{if◌then◌else◌}
use mathlib.Core.Path.{◌≡◌, refl, ◌∙◌, ap}
use mathlib.Core.Bool.{false}
use mathlib.Core.List.{List, [], ◌∷◌, map}
use mathlib.Core.Option.{none}
use Prim.Native.Nat.{ℕ}
use lib.ListN.{length}
use borrow.Author.Tests.{eq-eqb}
use Rattle.paper.specs.Yard.{Crossing, pack, crossings}
use Rattle.paper.specs.Order.{Order}
use Rattle.paper.specs.Dependence.{fresh}
use Rattle.paper.specs.Docket.{yard_of, bad_marks}
use Rattle.paper.specs.Answers.{Report, accept, already, refuse, accepts, check, marks_after, plan as planned, accepted}
use Rattle.paper.specs.Log.{Request, answer_to, marks_from, names_from, marks_of, names_of}
use Rattle.paper.proofs.Tests.{not-both}
use Rattle.laws.proofs.Logging.{fine-marks, plan-lawful}
use Rattle.demands.proofs.Demands.{Demand3, demand-3}
use Rattle.laws.proofs.Handing.{handed-passes}
use Rattle.trips.specs.Trips.{shorten}
use Rattle.trips.proofs.Shortened.{shortened-passes}
use Rattle.bills.specs.Answering.{opening, then_marks}
use Rattle.bills.specs.Keeping.{Books, answer_on, books_by}
use Rattle.bills.proofs.Keeping.{opened as opened-afresh, eleven-exactly, agrees-exactly, billing-told, kept-afresh}
use Rattle.bills.proofs.Demand3.{by-acceptance}
use Rattle.runs.specs.Runs.{Call, reported, billed, opened, compared, books_after, accepting, books_then, names_then, LogDemand, Demand3Mixed}

-- ## The paper's run

module _ (plan : List ℕ) where
  -- the reports that were heard: all plain ones, and the billed ones that were accepted
  heard_now : Books → Call → List Request → List Request
  heard_now b (reported q) rest = q ∷ rest
  heard_now b (billed q) rest = if accepts (answer_on plan b q) then q ∷ rest else rest
  heard_now b (opened q) rest = rest
  heard_now b (compared q) rest = rest

  heard : Books → List Call → List Request
  heard b [] = []
  heard b (c ∷ cs) = heard_now b c (heard (books_after plan b c) cs)

  run_is : (b : Books) (cs : List Call)
      → ((books_then plan b cs).marks ≡ marks_from plan b.marks (heard b cs)) × (names_then plan b cs ≡ names_from plan b.marks (heard b cs))
  unfolding heard heard_now books_then names_then marks_from names_from
  run_is b [] = (refl, refl)
  run_is b (reported q ∷ cs) =
      let ih = run_is (books_after plan b (reported q)) cs in
      (ih.0, ap (λ l. if accepts (answer_to plan b.marks q) then q.name ∷ l else l) ih.1)
  run_is b (billed q ∷ cs) =
      let ih = run_is (books_by plan b q) cs in
      by-acceptance plan b q
      (λ e a s. (
        rw e (ih.0 ∙ ap (λ ms. marks_from plan ms (heard (books_by plan b q) cs)) s),
        rw (e, a) (ap (λ l. q.name ∷ l) (ih.1 ∙ ap (λ ms. names_from plan ms (heard (books_by plan b q) cs)) s)),
      ))
      (λ e s. (
        rw e (ih.0 ∙ ap (λ ms. marks_from plan ms (heard (books_by plan b q) cs)) s),
        rw e (ih.1 ∙ ap (λ ms. names_from plan ms (heard (books_by plan b q) cs)) s),
      ))
  run_is b (opened q ∷ cs) = run_is (books_after plan b (opened q)) cs
  run_is b (compared q ∷ cs) = run_is b cs

  marks-kept : (b : Books) (c : Call) → accepting plan b c ≡ false → (books_after plan b c).marks ≡ b.marks
  unfolding then_marks accepts marks_after
  marks-kept b (reported q) h = by_answer (answer_to plan b.marks q) h
    where
      by_answer : (r : Report) → accepts r ≡ false → marks_after b.marks q.name r ≡ b.marks
      by_answer accept e = not-both refl e
      by_answer already e = refl
      by_answer (refuse x) e = refl
  marks-kept b (billed q) h = rw h
  marks-kept b (opened q) h = refl
  marks-kept b (compared q) h = refl

-- ## The demand

log-of : (o : Order) (plan : List ℕ) (qs : List Request) → Demand3 o plan qs
    → LogDemand o plan (marks_of plan qs) (names_of plan qs)
log-of o plan qs d = record {
  lawful = d.lawful;
  same = d.same;
  marked = d.marked;
  once = d.once;
  repeats = d.repeats;
  answered = d.answered;
  goes_on = d.goes_on;
  all_home = d.all_home;
}

module _ (o : Order) (plan : List ℕ) (passes : check o plan ≡ none) where
  open-passes : (marks : List ℕ) (lent : ℕ) → bad_marks (crossings plan) marks ≡ false → lent ≡ length o.starts → opening o plan marks lent ≡ none
  unfolding opening
  open-passes marks lent f e = rw ((eleven-exactly o plan marks).1 (passes, f), eq-eqb lent (length o.starts) e)

  -- Over any mix of calls on a plan that passes the check, from fresh marks and any record and lines.
  pub demand-3-mixed : (b : Books) → b.marks ≡ fresh plan → (cs : List Call) → Demand3Mixed o plan b cs
  demand-3-mixed b start cs =
      let r = run_is plan b cs in
      let qs = heard plan b cs in
      let e = books_then plan b cs in
      let m : e.marks ≡ marks_of plan qs = r.0 ∙ ap (λ ms. marks_from plan ms qs) start in
      let names : names_then plan b cs ≡ names_of plan qs = r.1 ∙ ap (λ ms. names_from plan ms qs) start in
      let ok : bad_marks (crossings plan) e.marks ≡ false = ap (bad_marks (crossings plan)) m ∙ fine-marks o plan passes qs in
      record {
        log = rw (m, names) (log-of o plan qs (demand-3 o plan passes qs));
        unchanged = λ c h. marks-kept plan e c h;
        opens = λ i k. (opened-afresh o plan e.marks e.running e.lines (open-passes e.marks (length e.lines) ok k)).0;
        keeps = λ q f. kept-afresh (yard_of o) o.starts plan (plan-lawful o plan passes) e q f;
        agreeing = λ f. (agrees-exactly o plan e.marks e.running e.lines).1 ((eleven-exactly o plan e.marks).1 (passes, ok), f);
        alike = λ i f. billing-told o plan e.marks e.running e.lines i passes ok f;
      }

  -- ## Of a plan that was shortened before any mark

  abbrev shorter : List ℕ
  shorter = map pack (shorten (crossings plan))

  pub shortened-demand-3 : (qs : List Request) → Demand3 o shorter qs
  shortened-demand-3 qs = demand-3 o shorter (shortened-passes o plan passes).0 qs

-- the same over any mix, of the plan that shortening gives and of every plan handed out
pub shortened-mixed : (o : Order) (plan : List ℕ) → check o plan ≡ none
    → (b : Books) → b.marks ≡ fresh (map pack (shorten (crossings plan))) → (cs : List Call)
    → Demand3Mixed o (map pack (shorten (crossings plan))) b cs
shortened-mixed o plan passes b start cs =
    demand-3-mixed o (map pack (shorten (crossings plan))) (shortened-passes o plan passes).0 b start cs

pub handed-mixed : (o : Order) (lent : ℕ) (xs : List Crossing) → planned o lent ≡ accepted xs
    → (b : Books) → b.marks ≡ fresh (map pack xs) → (cs : List Call) → Demand3Mixed o (map pack xs) b cs
handed-mixed o lent xs h b start cs =
    demand-3-mixed o (map pack xs) (handed-passes o lent xs h).0 b start cs
