-- Any two answers that a statement of this crate allows are equal, with all that they leave, for whatever record and lines are handed in.
use mathlib.Core.Path.{◌≡◌, refl, sym, ◌∙◌, ap}
use mathlib.Core.List.{List}
use Prim.Native.Nat.{ℕ}
use Rattle.paper.specs.Order.{Order}
use Rattle.paper.proofs.Determined.{Determined, telling-by}
use Rattle.docket.proofs.Telling.{refusal_for, refusal-back}
use Rattle.checker.specs.Checked.{Checked}
use Rattle.checker.proofs.Back.{checks-told-apart}
use Rattle.marks.specs.declared.Reported.{Reported}
use Rattle.marks.proofs.Back.{reports-told-apart}
use Rattle.bills.specs.Answering.{agreement}
use Rattle.bills.specs.Answering as told
use Rattle.bills.specs.declared.Line.{Line}
use Rattle.bills.specs.declared.Record.{Record}
use Rattle.held_lines.specs.Lines.{lines_held}
use Rattle.ledger.specs.Statements.{agreement_of, OpenSays, BillingSays}
use Rattle.held_lines.specs.declared.HeldLines.{HeldLines}
use Rattle.ledger.specs.declared.Agreement.{Agreement}
use Rattle.ledger.specs.declared.Agreement.TheVariants as test
use Rattle.ledger.specs.declared.Opening.{Opening}
use Rattle.settling.specs.declared.Settlement.{Settlement}

-- ## The agreement test's answer is read in one way only, since it can be read back

agreement_for : told.Agreement → Agreement
agreement_for told.agrees = test.Agrees
agreement_for told.differs = test.Differs
agreement_for (told.refused r) = test.Refused (refusal_for r)

agreement-back : (a : Agreement) → agreement_for (agreement_of a) ≡ a
unfolding agreement_for
agreement-back test.Agrees = refl
agreement-back test.Differs = refl
agreement-back (test.Refused r) = ap test.Refused (refusal-back r)

-- ## Equal part by part

opening-parts : (a b : Opening) → a.answer ≡ b.answer → a.running ≡ b.running → a.held ≡ b.held → a ≡ b
opening-parts a b e f g = go a.answer b.answer a.running b.running a.held b.held e f g
  where
    go : (p q : Checked) (m n : Record) (h k : HeldLines) → p ≡ q → m ≡ n → h ≡ k
        → ◌≡◌ {A = Opening} (record { answer = p; running = m; held = h }) (record { answer = q; running = n; held = k })
    go p q m n h k e f g = rw (e, f, g)

told-parts : (a b : Settlement) → a.answer ≡ b.answer → a.running ≡ b.running → a.at ≡ b.at → a.line ≡ b.line → a ≡ b
told-parts a b e f g l = go a.answer b.answer a.running b.running a.at b.at a.line b.line e f g l
  where
    go : (p q : Reported) (m n : Record) (h k : ℕ) (x y : Line) → p ≡ q → m ≡ n → h ≡ k → x ≡ y
        → ◌≡◌ {A = Settlement} (record { answer = p; running = m; at = h; line = x }) (record { answer = q; running = n; at = k; line = y })
    go p q m n h k x y e f g l = rw (e, f, g, l)

-- ## Opening, the agreement test and a report

module _ (o : Order) (plan marks : List ℕ) (rec : Record) where
  pub open-determined : (count : ℕ) (a a' : Opening) → OpenSays o plan marks rec count a → OpenSays o plan marks rec count a' → a ≡ a'
  open-determined count a a' s t =
      opening-parts a a' (checks-told-apart a.answer a'.answer (s.answers ∙ sym t.answers)) (s.leaves ∙ sym t.leaves) (s.holds ∙ sym t.holds)

  pub compare-determined : (held : HeldLines) (a a' : Agreement) → agreement_of a ≡ agreement o plan marks rec (lines_held held)
      → agreement_of a' ≡ agreement o plan marks rec (lines_held held) → a ≡ a'
  compare-determined held a a' s t = telling-by agreement_of agreement_for agreement-back a a' (s ∙ sym t)

  pub report-determined : (held : HeldLines) (name : ℕ) → Determined (BillingSays o plan marks name rec held)
  report-determined held name a a' m m' s t = (
    told-parts a a' (reports-told-apart a.answer a'.answer (s.answers ∙ sym t.answers)) (s.leaves ∙ sym t.leaves)
        (s.place ∙ sym t.place) (s.line_then ∙ sym t.line_then),
    s.marks_then ∙ sym t.marks_then,
  )
