-- Demand 3 of the library's own functions on a running record: of an opening on fresh marks and of every run of reports after it, whatever numbers and books
-- their statements allow. It holds since a statement allows the definition's books only, so a run is the definition's run.
-- Assumes nothing.
use Rattle.std.specs.Prelude.{if◌then◌else◌}
use mathlib.Core.Path.{◌≡◌, refl, sym, ◌∙◌, ap}
use mathlib.Core.List.{List, [], ◌∷◌}
use mathlib.Core.Option.{Option, none, some}
use Prim.Native.Nat.{ℕ}
use lib.Dec.{eqb}
use lib.ListN.{length}
use borrow.Author.Tests.{ne_eqb}
use Rattle.paper.specs.Basics.{elem}
use Rattle.paper.specs.Order.{Order}
use Rattle.paper.specs.Dependence.{fresh}
use Rattle.paper.specs.Docket.{Refusal, number}
use Rattle.paper.specs.Answers.{check, Report, accept, already, refuse, accepts}
use Rattle.paper.specs.Log.{Request}
use Rattle.paper.proofs.Determined.{not-in-table}
use Rattle.bills.specs.Answering.{opening}
use Rattle.bills.specs.Keeping.{Books, answer_on, books_by, books_from, billed_from, fresh_books}
use Rattle.bills.specs.declared.Line.{Line}
use Rattle.bills.specs.declared.Record.{Record}
use Rattle.bills.proofs.Keeping.{opened}
use Rattle.bills.proofs.Demand3.{Demand3Billed, demand-3-billed}
use Rattle.numbers.specs.Numbers.{number_of, report_number}
use Rattle.sejjekoru.specs.Bills.{OpenTells, ReportBilledTells}

-- one report on a plan, as the statement of `sejjekoru_report_billed` has it
abbrev pub Says : List ℕ → Books → Request → ℕ → ℕ → Books → Type 0
Says plan b q number value b' =
    ReportBilledTells q.order plan b.marks q.name b.running b.lines number value b'.marks b'.running b'.lines

-- a run of them: each begins with the books that the last one left
pub data Run (plan : List ℕ) : Books → List Request → List ℕ → Books → Type 0 where
  ended : {b : Books} → Run plan b [] [] b
  reported : {b b' end : Books} {q : Request} {qs : List Request} {number value : ℕ} {numbers : List ℕ}
      → Says plan b q number value b' → Run plan b' qs numbers end → Run plan b (q ∷ qs) (number ∷ numbers) end

-- the names that a run accepted, told by 0, in the order accepted
unfoldable pub accepted_in : List Request → List ℕ → List ℕ
accepted_in [] numbers = []
accepted_in (q ∷ qs) [] = []
accepted_in (q ∷ qs) (number ∷ numbers) = let rest = accepted_in qs numbers in if eqb number 0 then q.name ∷ rest else rest

-- only acceptance is told by 0
zero-accepts : (a : Report) → eqb (report_number a) 0 ≡ accepts a
unfolding accepts elem
zero-accepts accept = refl
zero-accepts already = refl
zero-accepts (refuse r) = ne_eqb (number r) 0 (λ e. not-in-table 0 refl r e)

-- nor is a refusal to open
open_none : (a : Option Refusal) → 0 ≡ number_of a → a ≡ none
unfolding elem
open_none none e = refl
open_none (some r) e = absurd (not-in-table 0 refl r (sym e))

books-are : (plan : List ℕ) (b b' : Books) (q : Request) (number value : ℕ) → Says plan b q number value b' → b' ≡ books_by plan b q
books-are plan b b' q number value s = λ i. record { marks = s.marks_then i; running = s.record_then i; lines = s.lines_then i }

-- A run leaves the definition's books and accepts the definition's names.
pub run_is : {plan : List ℕ} {b : Books} {qs : List Request} {numbers : List ℕ} {end : Books} → Run plan b qs numbers end
    → (end ≡ books_from plan b qs) × (accepted_in qs numbers ≡ billed_from plan b qs)
unfolding books_from billed_from accepted_in
run_is ended = (refl, refl)
run_is {plan} {b} (reported {b' = b'} {q = q} {qs = qs} {number = number} {value = value} {numbers = numbers} s more) =
    let ih = run_is more in
    let e = books-are plan b b' q number value s in (
      ih.0 ∙ ap (λ x. books_from plan x qs) e,
      ap (λ y. if y then q.name ∷ accepted_in qs numbers else accepted_in qs numbers) (ap (λ k. eqb k 0) s.tells.numbered ∙ zero-accepts (answer_on plan b q))
          ∙ ap (λ l. if accepts (answer_on plan b q) then q.name ∷ l else l) (ih.1 ∙ ap (λ x. billed_from plan x qs) e),
    )

module _ (given : Order) (plan : List ℕ) (passes : check given plan ≡ none) where
  -- Demand 3, of every run of reports from an opening on fresh marks that was accepted, on a plan that passes the check.
  pub demand-3-of-bills : (rec rec' : Record) (lines lines' : List Line) (value : ℕ) → OpenTells given plan (fresh plan) rec lines 0 value rec' lines'
      → (qs : List Request) (numbers : List ℕ) (end : Books) → Run plan (record { marks = fresh plan; running = rec'; lines = lines' }) qs numbers end
      → (end ≡ books_from plan (fresh_books plan given.starts) qs) × (accepted_in qs numbers ≡ billed_from plan (fresh_books plan given.starts) qs) × Demand3Billed given plan qs
  demand-3-of-bills rec rec' lines lines' value o qs numbers end run =
      let none-refused : opening given plan (fresh plan) (length lines) ≡ none = open_none (opening given plan (fresh plan) (length lines)) o.tells.numbered in
      let f = (opened given plan (fresh plan) rec lines none-refused).0 in
      let first : record { marks = fresh plan; running = rec'; lines = lines' } ≡ fresh_books plan given.starts =
      λ i. record { marks = fresh plan; running = (o.record_then ∙ f.0) i; lines = (o.lines_then ∙ f.1) i } in
      let e = run_is run in
      (e.0 ∙ ap (λ b. books_from plan b qs) first, e.1 ∙ ap (λ b. billed_from plan b qs) first, demand-3-billed given plan passes qs)
