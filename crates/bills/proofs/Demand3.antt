-- Demand 3 over record, lines and marks together, for any sequence of reports on a plan that passes the check. A report that is accepted
-- is one that the paper's report accepts, and any other changes nothing: so the run is the paper's run of the reports that were accepted.
use Rattle.std.specs.Prelude.{if◌then◌else◌}
use mathlib.Core.Path.{◌≡◌, refl, sym, ◌∙◌, ap}
use mathlib.Core.Bool.{true, false}
use mathlib.Core.List.{List, [], ◌∷◌, map}
use mathlib.Core.Option.{none}
use Prim.Native.Nat.{ℕ, suc, ◌<◌}
use native.Mathlib.Omega.{arith}
use lib.ListN.{length, get_or, length-map}
use Rattle.paper.specs.Yard.{Carrier, Yard, Placement, Crossing, after, legal_plan, pack, unpack, crossings}
use Rattle.paper.specs.Order.{Order}
use Rattle.paper.specs.Dependence.{done_of, count_of}
use Rattle.paper.specs.Docket.{yard_of}
use Rattle.paper.specs.Answers.{accept, accepts, check, marks_after, accepted, plan as planned}
use Rattle.paper.specs.Log.{Request, answer_to, marks_by, marks_from, names_from}
use Rattle.paper.proofs.Tests.{by_cases, not-both}
use Rattle.paper.proofs.Commuting.{done-set}
use Rattle.paper.proofs.Marking.{closed_of}
use Rattle.paper.proofs.Checking.{check-passed}
use Rattle.paper.proofs.Reporting.{tell-facts, done-already, facts-accept}
use Rattle.laws.proofs.Logging.{RightLog, fine, some-ready, all_done, plan-lawful, right-from-fresh}
use Rattle.laws.proofs.Handing.{handed-passes}
use Rattle.bills.specs.Billing.{places, untouched, no_line}
use Rattle.bills.specs.Answering.{then_marks}
use Rattle.bills.specs.Keeping.{Books, answer_on, books_by, fresh_books, books_from, billed_from}
pub use Rattle.bills.specs.Demand.{books_end, names_billed, crossings_billed, asked, AllBilled, Demand3Billed}
use Rattle.bills.specs.declared.Record.{Record}
use Rattle.bills.specs.declared.Line.{Line}
use Rattle.bills.proofs.Stepping.{line-at, carrier_there}
use Rattle.bills.proofs.Same.{Afresh}
use Rattle.bills.proofs.Keeping.{accepts-accept, nothing-changed, accepted-too, accepts_exactly, billing-told, kept-afresh}
use Rattle.bills.proofs.Last.{last_of, last-run, last-fresh}
use Rattle.bills.proofs.Summing.{total_billed, billed-is-done}

-- ## The paper's run

books-parts : (a b : Books) → a.marks ≡ b.marks → a.running ≡ b.running → a.lines ≡ b.lines → a ≡ b
books-parts a b e f g = go a.marks b.marks a.running b.running a.lines b.lines e f g
  where
    go : (m n : List ℕ) (r s : Record) (l k : List Line) → m ≡ n → r ≡ s → l ≡ k
        → ◌≡◌ {A = Books} (record { marks = m; running = r; lines = l }) (record { marks = n; running = s; lines = k })
    go m n r s l k e f g = rw (e, f, g)

module _ (plan : List ℕ) where
  -- the requests that were accepted
  heard : Books → List Request → List Request
  heard b [] = []
  heard b (q ∷ qs) = let rest = heard (books_by plan b q) qs in if accepts (answer_on plan b q) then q ∷ rest else rest

  -- Whatever is not accepted changes nothing, on any books.
  pub unaccepted : (b : Books) (q : Request) → (answer_on plan b q ≡ accept → ⊥) → books_by plan b q ≡ b
  unaccepted b q h =
      let e = nothing-changed q.order plan b.marks b.running b.lines q.name h in
      books-parts (books_by plan b q) b e.0 e.1 e.2

  -- a report that is accepted leaves the marks that the paper's does, and any other leaves them as they were
  pub by-acceptance : {P : Type 0} (b : Books) (q : Request)
      → (accepts (answer_on plan b q) ≡ true → accepts (answer_to plan b.marks q) ≡ true → (books_by plan b q).marks ≡ marks_by plan b.marks q → P)
      → (accepts (answer_on plan b q) ≡ false → (books_by plan b q).marks ≡ b.marks → P)
      → P
  unfolding then_marks marks_after
  by-acceptance b q f g =
      by_cases (accepts (answer_on plan b q))
      (λ e.
      let a : answer_to plan b.marks q ≡ accept =
      accepted-too q.order plan b.marks b.running b.lines q.name ((accepts-accept (answer_on plan b q)).0 e) in
      f e ((accepts-accept (answer_to plan b.marks q)).1 a) (rw e (ap (marks_after b.marks q.name) (sym a))))
      (λ e. g e (rw e))

  run_is : (b : Books) (qs : List Request)
      → ((books_from plan b qs).marks ≡ marks_from plan b.marks (heard b qs)) × (billed_from plan b qs ≡ names_from plan b.marks (heard b qs))
  unfolding heard books_from billed_from marks_from names_from
  run_is b [] = (refl, refl)
  run_is b (q ∷ qs) =
      let ih = run_is (books_by plan b q) qs in
      by-acceptance b q
      (λ e a s. (
        rw e (ih.0 ∙ ap (λ ms. marks_from plan ms (heard (books_by plan b q) qs)) s),
        rw (e, a) (ap (λ l. q.name ∷ l) (ih.1 ∙ ap (λ ms. names_from plan ms (heard (books_by plan b q) qs)) s)),
      ))
      (λ e s. (
        rw e (ih.0 ∙ ap (λ ms. marks_from plan ms (heard (books_by plan b q) qs)) s),
        rw e (ih.1 ∙ ap (λ ms. names_from plan ms (heard (books_by plan b q) qs)) s),
      ))

  ends-afresh : (Y : Yard) (starts : Placement) → legal_plan Y starts (crossings plan) ≡ true → (b : Books) (qs : List Request)
      → Afresh starts plan b.marks b.running b.lines
      → Afresh starts plan (books_from plan b qs).marks (books_from plan b qs).running (books_from plan b qs).lines
  unfolding books_from
  ends-afresh Y starts lawful b [] f = f
  ends-afresh Y starts lawful b (q ∷ qs) f =
      ends-afresh Y starts lawful (books_by plan b q) qs (kept-afresh Y starts plan lawful b q f)

-- ## The demand

module _ (o : Order) (plan : List ℕ) (passes : check o plan ≡ none) where
  right-on-books : (qs : List Request) → RightLog (yard_of o) o.starts (crossings plan) (books_end o.starts plan qs).marks (names_billed o.starts plan qs)
  right-on-books qs =
      let e = run_is plan (fresh_books plan o.starts) qs in
      rw (e.0, e.1) (right-from-fresh o plan passes (heard plan (fresh_books plan o.starts) qs))

  pub demand-3-billed : (qs : List Request) → Demand3Billed o plan qs
  demand-3-billed qs =
      let Y = yard_of o in
      let xs = crossings plan in
      let b = books_end o.starts plan qs in
      let k = right-on-books qs in
      let legal = plan-lawful o plan passes in
      let ok = fine Y o.starts xs legal b.marks (names_billed o.starts plan qs) k in
      let f = ends-afresh plan Y o.starts legal (fresh_books plan o.starts) qs (refl, refl) in
      let len : length xs ≡ length plan = length-map plan unpack in
      let first = (done-set Y o.starts xs b.marks (closed_of xs b.marks k.order) legal).first in
      let each : (c : Carrier) → c < length o.starts → (get_or b.lines c no_line).billed ≡ count_of c (done_of xs b.marks) =
      λ c h. ap (λ l. (get_or l c no_line).billed) f.1 ∙ ap (λ l. l.billed) (line-at (length o.starts) xs b.marks c no_line h) in
      let sum : total_billed b.lines ≡ length (done_of xs b.marks) =
      ap total_billed f.1 ∙ billed-is-done (length o.starts) xs b.marks (λ i h. carrier_there Y o.starts (done_of xs b.marks) i first h) in
      let same_answer : (i : ℕ) → answer_on plan b (asked o i) ≡ answer_to plan b.marks (asked o i) =
      λ i. billing-told o plan b.marks b.running b.lines i passes ok f in
      record {
        afresh = f;
        lawful = k.lawful;
        same = k.same;
        placed = ap (λ r. r.at) f.0 ∙ ap places (sym k.same);
        marked = λ i. (k.marked i, λ m. (k.names i m).1);
        once = k.once;
        each_billed = λ c h. each c h ∙ sym (k.counts c);
        all_billed = sum ∙ sym (ap (λ r. r.done) f.0);
        last_names = λ c h. ap (λ l. (get_or l c no_line).last) f.1 ∙ ap (λ l. l.last) (line-at (length o.starts) xs b.marks c no_line h)
            ∙ last-run plan c (fresh_books plan o.starts) qs ∙ ap (λ l. last_of c xs l (names_billed o.starts plan qs)) (last-fresh c untouched 0 xs (length plan));
        repeats = λ q m. unaccepted plan b q
            (λ a. not-both (k.names q.name m).1
            (tell-facts xs b.marks q.name ((accepts_exactly q.order plan b.marks b.running b.lines q.name).0 a).2).2);
        answered = λ i m.
            let d = k.names i m in same_answer i ∙ done-already o plan b.marks passes ok i d.0 d.1;
        unchanged = λ q h. unaccepted plan b q h;
        goes_on = λ i h d.
            let r = some-ready Y o.starts xs legal b.marks (suc i) i (omega arith) (rw len h) d in
            (r.0, same_answer r.0 ∙ facts-accept o plan b.marks passes ok r.0 r.1 r.2 r.3);
        all_home = λ g.
            let whole = all_done xs b.marks k.long (λ i h. g i (rw len at h)) in
            record {
              home = ap (λ r. r.at) f.0 ∙ ap (λ ys. places (after o.starts ys)) whole ∙ ap places (check-passed o plan passes).home;
              each = λ c h. each c h ∙ ap (count_of c) whole;
              billed = sum ∙ ap length whole ∙ len;
              done = ap (λ r. r.done) f.0 ∙ ap length whole ∙ len;
            };
      }

-- Every plan handed out passes the check, so this is of every such plan.
pub handed-demand-3-billed : (o : Order) (lent : ℕ) (xs : List Crossing) → planned o lent ≡ accepted xs
    → (qs : List Request) → Demand3Billed o (map pack xs) qs
handed-demand-3-billed o lent xs h qs =
    demand-3-billed o (map pack xs) (handed-passes o lent xs h).0 qs
