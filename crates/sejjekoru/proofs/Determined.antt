-- Any two pairs of numbers that a statement allows are equal, and so is what is left in the lent list.
-- Assumes nothing.
use mathlib.Core.Path.{sym, ◌∙◌}
use mathlib.Core.Bool.{Bool}
use mathlib.Core.List.{List}
use mathlib.Core.Option.{Option}
use Prim.Native.Nat.{ℕ}
use Rattle.paper.specs.Yard.{Bay}
use Rattle.paper.specs.Order.{Order}
use Rattle.paper.specs.Text.{Text}
use Rattle.paper.proofs.Determined.{Determined}
use Rattle.bills.specs.declared.Line.{Line}
use Rattle.bills.specs.declared.Record.{Record}
use Rattle.sejjekoru.specs.Bills.{OpenTells, AgreesTells, ReportBilledTells}
use Rattle.sejjekoru.specs.Reverse.{ReverseTells}
use Rattle.sejjekoru.specs.ByEdition.{SlotsOfTell, TimedTells}
use Rattle.sejjekoru.specs.Surveys.{ReadSurveyTells, WriteSurveyTells}
use Rattle.numbers.specs.Tells.{Tells}
use Rattle.sejjekoru.specs.Statements.{TellsAndLeaves, PlanTells, CheckTells, SlotsTell, ReportTells, ShortenTells}

tells-determined : {due due-value : ℕ} → Determined (Tells due due-value)
tells-determined a a' v v' s t = (s.numbered ∙ sym t.numbered, s.valued ∙ sym t.valued)

-- a statement of two numbers and a list, as one of the pair and the list
abbrev Paired : (ℕ → ℕ → List ℕ → Type 0) → ℕ × ℕ → List ℕ → Type 0
Paired S a l = S a.0 a.1 l

left-determined : {due due-value : ℕ} {due-list : List ℕ} → Determined (Paired (TellsAndLeaves due due-value due-list))
left-determined a a' l l' s t =
    let same = tells-determined a.0 a'.0 a.1 a'.1 s.tells t.tells in
    (λ i. (same.0 i, same.1 i), s.leaves ∙ sym t.leaves)

module _ (o : Order) where
  -- the count stands between the two numbers
  pub plan-determined : (lent : List ℕ) → Determined (λ (a : ℕ × ℕ × ℕ) (l : List ℕ). PlanTells o lent a.0 a.1 a.2 l)
  plan-determined lent a a' l l' s t =
      let same = tells-determined a.0 a'.0 a.2 a'.2 s.tells t.tells in
      let counts = s.parks ∙ sym t.parks in
      (λ i. (same.0 i, counts i, same.1 i), s.leaves ∙ sym t.leaves)

  pub check-determined : (crossed : List ℕ) → Determined (CheckTells o crossed)
  check-determined crossed = tells-determined

  pub slots-determined : (crossed slots : List ℕ) → Determined (Paired (SlotsTell o crossed slots))
  slots-determined crossed slots = left-determined

  pub slots-of-determined : (crossed : List ℕ) (edition : ℕ) (slots : List ℕ) → Determined (Paired (SlotsOfTell o crossed edition slots))
  slots-of-determined crossed edition slots = left-determined

  pub report-determined : (crossed marks : List ℕ) (name : ℕ) → Determined (Paired (ReportTells o crossed marks name))
  report-determined crossed marks name = left-determined

  pub shorten-determined : (crossed marks out : List ℕ) → Determined (Paired (ShortenTells o crossed marks out))
  shorten-determined crossed marks out = left-determined

  -- record and lines, and for a report the marks, are what is left
  pub open-determined : (crossed marks : List ℕ) (rec : Record) (lines : List Line)
      → Determined (λ (a : ℕ × ℕ) (l : Record × List Line). OpenTells o crossed marks rec lines a.0 a.1 l.0 l.1)
  open-determined crossed marks rec lines a a' l l' s t =
      let same = tells-determined a.0 a'.0 a.1 a'.1 s.tells t.tells in
      let recs = s.record_then ∙ sym t.record_then in
      let lists = s.lines_then ∙ sym t.lines_then in
      (λ i. (same.0 i, same.1 i), λ i. (recs i, lists i))

  pub agrees-determined : (crossed marks : List ℕ) (rec : Record) (lines : List Line) → Determined (AgreesTells o crossed marks rec lines)
  agrees-determined crossed marks rec lines = tells-determined

  pub billed-determined : (crossed marks : List ℕ) (name : ℕ) (rec : Record) (lines : List Line)
      → Determined (λ (a : ℕ × ℕ) (l : List ℕ × (Record × List Line)). ReportBilledTells o crossed marks name rec lines a.0 a.1 l.0 l.1.0 l.1.1)
  billed-determined crossed marks name rec lines a a' l l' s t =
      let same = tells-determined a.0 a'.0 a.1 a'.1 s.tells t.tells in
      let marked = s.marks_then ∙ sym t.marks_then in
      let recs = s.record_then ∙ sym t.record_then in
      let lists = s.lines_then ∙ sym t.lines_then in
      (λ i. (same.0 i, same.1 i), λ i. (marked i, (recs i, lists i)))

pub reverse-determined : (list out : List ℕ) → Determined (Paired (ReverseTells list out))
reverse-determined list out = left-determined

pub timed-determined : (edition : ℕ) (map_file scenario_file : Option Text) (short : Bool) (out : List ℕ)
    → Determined (Paired (TimedTells edition map_file scenario_file short out))
timed-determined edition map_file scenario_file short out = left-determined

-- the bays are told too
pub read-survey-determined : (file : Text) (before : List ℕ)
    → Determined (λ (a : ℕ × ℕ × ℕ) (l : List ℕ). ReadSurveyTells file before a.0 a.1 a.2 l)
read-survey-determined file before a a' l l' s t =
    let same = tells-determined a.0 a'.0 a.1 a'.1 s.tells t.tells in
    let bays = s.counted ∙ sym t.counted in
    (λ i. (same.0 i, same.1 i, bays i), s.leaves ∙ sym t.leaves)

pub write-survey-determined : (n : ℕ) (ends : List Bay) (before : List ℕ) → Determined (Paired (WriteSurveyTells n ends before))
write-survey-determined n ends before = left-determined
