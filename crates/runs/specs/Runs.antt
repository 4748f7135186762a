-- Any sequence of calls on one plan, its marks, its record and its lines: plain reports, billed reports, openings and agreement tests, mixed as they come.
-- Assumes nothing.
use Rattle.std.specs.Prelude.{Bool, true, false, ◌↔◌, List, [], ◌∷◌, map, ◌≡◌, ℕ, ◌<◌, length, if◌then◌else◌}
use Rattle.paper.specs.Basics.{In, NoDup}
use Rattle.paper.specs.Yard.{Carrier, Placement, after, legal_plan, crossings, named}
use Rattle.paper.specs.Order.{Order}
use Rattle.paper.specs.Dependence.{is_done, count_of, placement_by}
use Rattle.paper.specs.Docket.{yard_of}
use Rattle.paper.specs.Answers.{accept, already, report, accepts}
use Rattle.paper.specs.Log.{Request, answer_to, marks_by}
use Rattle.bills.specs.Billing.{record_of, lines_of}
use Rattle.bills.specs.Answering.{agrees, opened_record, opened_lines, agreement}
use Rattle.bills.specs.Keeping.{Books, answer_on, books_by}

-- each with a yard, a start and a goal of its own; the name is a report's
pub data Call : Type 0 where
  reported billed opened compared : Request → Call

abbrev pub request_of : Call → Request
request_of (reported q) = q
request_of (billed q) = q
request_of (opened q) = q
request_of (compared q) = q

module _ (plan : List ℕ) where
  -- opening builds record and lines from plan and marks
  abbrev pub books_opened : Books → Request → Books
  books_opened b q = record {
    marks = b.marks;
    running = opened_record q.order plan b.marks b.running (length b.lines);
    lines = opened_lines q.order plan b.marks b.lines;
  }

  -- what a call leaves: a plain report knows of no record, and an agreement test changes nothing
  abbrev pub books_after : Books → Call → Books
  books_after b (reported q) = record { marks = marks_by plan b.marks q; running = b.running; lines = b.lines }
  books_after b (billed q) = books_by plan b q
  books_after b (opened q) = books_opened b q
  books_after b (compared q) = b

  -- whether the call accepts its name
  abbrev pub accepting : Books → Call → Bool
  accepting b (reported q) = accepts (answer_to plan b.marks q)
  accepting b (billed q) = accepts (answer_on plan b q)
  accepting b (opened q) = false
  accepting b (compared q) = false

  -- the books at the end, and the names accepted, in the order accepted
  unfoldable pub books_then : Books → List Call → Books
  books_then b [] = b
  books_then b (c ∷ cs) = books_then (books_after b c) cs

  unfoldable pub names_then : Books → List Call → List ℕ
  names_then b [] = []
  names_then b (c ∷ cs) = let rest = names_then (books_after b c) cs in if accepting b c then (request_of c).name ∷ rest else rest

-- Demand 3, of the marks and of the names accepted, however they came about
pub record LogDemand (o : Order) (plan marks names : List ℕ) : Type 0 where
  -- "the accepted crossings, in the order accepted, are each legal,
  pub lawful : legal_plan (yard_of o) o.starts (map (named (crossings plan)) names) ≡ true
  -- and leave the carriers where those same crossings in plan order would"
  pub same : after o.starts (map (named (crossings plan)) names) ≡ placement_by o.starts (crossings plan) marks
  pub marked : (i : ℕ) → (is_done marks i ≡ true) ↔ In i names
  pub once : NoDup names
  -- "A repeat changes nothing."
  pub repeats : (q : Request) → In q.name names → marks_by plan marks q ≡ marks
  pub answered : (i : ℕ) → In i names → report o plan marks i ≡ already
  -- "While one is undone, some name would be accepted in a report with that check's yard, start and goal."
  pub goes_on : (i : ℕ) → i < length plan → is_done marks i ≡ false → (j : ℕ) × (report o plan marks j ≡ accept)
  -- "With all done, every carrier is home and has made its plan's count of crossings."
  pub all_home : ((i : ℕ) → i < length plan → is_done marks i ≡ true)
      → (after o.starts (map (named (crossings plan)) names) ≡ o.goals)
      × ((c : Carrier) → count_of c (map (named (crossings plan)) names) ≡ count_of c (crossings plan))

-- record and lines are what plan, start and marks give worked out afresh
abbrev pub Agreed : Placement → List ℕ → Books → Type 0
Agreed starts plan b = (b.running ≡ record_of starts (crossings plan) b.marks) × (b.lines ≡ lines_of (length starts) (crossings plan) b.marks)

-- a call with that check's yard, start and goal
abbrev pub asking : Order → ℕ → Request
asking o i = record { order = o; name = i }

-- Demand 3 over such a sequence, from fresh marks and any record and lines
pub record Demand3Mixed (o : Order) (plan : List ℕ) (b : Books) (cs : List Call) : Type 0 where
  pub log : LogDemand o plan (books_then plan b cs).marks (names_then plan b cs)
  -- a call that accepts no name changes no mark
  pub unchanged : (c : Call) → accepting plan (books_then plan b cs) c ≡ false → (books_after plan (books_then plan b cs) c).marks ≡ (books_then plan b cs).marks
  -- an opening with that check's yard, start and goal, on a list of as many lines as carriers, makes record and lines agree,
  pub opens : (i : ℕ) → length (books_then plan b cs).lines ≡ length o.starts
      → Agreed o.starts plan (books_after plan (books_then plan b cs) (opened (asking o i)))
  -- a billed report keeps them so, whatever it comes with,
  pub keeps : (q : Request) → Agreed o.starts plan (books_then plan b cs) → Agreed o.starts plan (books_after plan (books_then plan b cs) (billed q))
  -- and where they agree the agreement test says so, and a billed report answers what a plain one does
  pub agreeing : Agreed o.starts plan (books_then plan b cs)
      → agreement o plan (books_then plan b cs).marks (books_then plan b cs).running (books_then plan b cs).lines ≡ agrees
  pub alike : (i : ℕ) → Agreed o.starts plan (books_then plan b cs)
      → answer_on plan (books_then plan b cs) (asking o i) ≡ report o plan (books_then plan b cs).marks i
