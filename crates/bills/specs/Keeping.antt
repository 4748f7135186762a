-- Any sequence of reports on one plan, with record and lines beside the marks.
-- Assumes nothing.
use Rattle.std.specs.Prelude.{List, [], ◌∷◌, ℕ, length, if◌then◌else◌}
use Rattle.paper.specs.Yard.{Placement, crossings}
use Rattle.paper.specs.Dependence.{fresh}
use Rattle.paper.specs.Answers.{Report, accepts}
use Rattle.paper.specs.Log.{Request}
use Rattle.bills.specs.Billing.{record_of, lines_of}
use Rattle.bills.specs.Answering.{billing, then_marks, then_record, then_lines}
use Rattle.bills.specs.declared.Record.{Record}
use Rattle.bills.specs.declared.Line.{Line}

-- what a report may change
pub record Books : Type 0 where
  pub marks : List ℕ
  pub running : Record
  pub lines : List Line

module _ (plan : List ℕ) where
  abbrev pub answer_on : Books → Request → Report
  answer_on b q = billing q.order plan b.marks b.running b.lines q.name

  abbrev pub books_by : Books → Request → Books
  books_by b q = record {
    marks = then_marks q.order plan b.marks b.running b.lines q.name;
    running = then_record q.order plan b.marks b.running b.lines q.name;
    lines = then_lines q.order plan b.marks b.running b.lines q.name;
  }

  -- record and lines worked out afresh from marks
  abbrev pub books_of : Placement → List ℕ → Books
  books_of starts marks = record { marks = marks; running = record_of starts (crossings plan) marks; lines = lines_of (length starts) (crossings plan) marks }

  -- as opening on fresh marks leaves them
  abbrev pub fresh_books : Placement → Books
  fresh_books starts = books_of starts (fresh plan)

  -- the books at the end, and the names accepted, in the order accepted
  unfoldable pub books_from : Books → List Request → Books
  books_from b [] = b
  books_from b (q ∷ qs) = books_from (books_by b q) qs

  unfoldable pub billed_from : Books → List Request → List ℕ
  billed_from b [] = []
  billed_from b (q ∷ qs) = let rest = billed_from (books_by b q) qs in if accepts (answer_on b q) then q.name ∷ rest else rest
