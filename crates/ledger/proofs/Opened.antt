-- What opening leaves, way out by way out, and what follows for lines that are lent.
use Rattle.std.proofs.Common.{Err, Ok}
use mathlib.Core.Path.{◌≡◌, sym, ◌∙◌, ap, ap₂}
use mathlib.Core.List.{List, [], ◌++◌, append-nil}
use mathlib.Core.Option.{none, some}
use Prim.Native.Nat.{ℕ, ◌≤◌, ◌<◌}
use native.Mathlib.Omega.{arith}
use borrow.Author.Tests.{not-false, eqb-true, eq-eqb, ne_eqb}
use lib.ListN.{length, drop, drop_of_length-le}
use Rattle.paper.specs.Limits.{most_bays}
use Rattle.paper.specs.Yard.{crossings}
use Rattle.paper.specs.Order.{Order}
use Rattle.paper.specs.Docket.{room}
use Rattle.paper.specs.Docket as paper
use Rattle.paper.proofs.Tests.{by-option, none_both, none-when, never-some}
use Rattle.docket.specs.Reading.{refusal_of}
use Rattle.docket.specs.declared.Refusal.{Refusal}
use Rattle.docket.specs.declared.Refusal.TheVariants.{Room}
use Rattle.bills.specs.Billing.{record_of, lines_of}
use Rattle.bills.specs.Answering.{up_to_eleven, opening, opened_record, opened_lines}
use Rattle.bills.specs.declared.Line.{Line}
use Rattle.bills.specs.declared.Record.{Record}
use Rattle.bills.proofs.Stepping.{lines_long}
use Rattle.bills.proofs.Same.{Afresh}
use Rattle.held_lines.specs.Lines.{no_lines, held_of, laid, gathered, lines_held}
use Rattle.ledger.specs.Statements.{OpenSays}
use Rattle.held_lines.specs.declared.HeldLines.{HeldLines}
use Rattle.ledger.specs.declared.Opening.{Opening}
use Rattle.held_lines.proofs.Laid.{held-long, held-taken}
use Rattle.agreeing.proofs.Refusing.{fit_of}

module _ (o : Order) (plan marks : List ℕ) (rec : Record) (count : ℕ) where
  pub open-refused : (r : Refusal) (held : HeldLines) → held ≡ held_of 0 no_lines → some (refusal_of r) ≡ opening o plan marks count
      → OpenSays o plan marks rec count (record { answer = Err r; running = rec; held = held })
  unfolding opened_record laid
  open-refused r held e h = record { answers = h; leaves = rw (← h); holds = e ∙ rw (← h) }

  pub eleven-first : (r : Refusal) → some (refusal_of r) ≡ up_to_eleven o plan marks → some (refusal_of r) ≡ opening o plan marks count
  unfolding opening
  eleven-first r h = rw (← h)

  module _ (passes : none ≡ up_to_eleven o plan marks) where
    pub then-room : (count ≡ length o.starts → ⊥) → some (refusal_of (Room (length o.starts))) ≡ opening o plan marks count
    unfolding opening
    then-room d = rw (← passes, ne_eqb count (length o.starts) d)

    pub open-written : count ≡ length o.starts → (running : Record) → running ≡ record_of o.starts (crossings plan) marks
        → (held : HeldLines) → held ≡ gathered (lines_of count (crossings plan) marks)
        → OpenSays o plan marks rec count (record { answer = (Ok tt); running = running; held = held })
    unfolding opening opened_record
    open-written k running er held eh =
        let free = eq-eqb count (length o.starts) k in
        record {
          answers = rw (← passes, free);
          leaves = er ∙ rw (← passes, free);
          holds = eh ∙ ap (λ (j : ℕ). gathered (lines_of j (crossings plan) marks)) k ∙ rw (← passes, free);
        }

  module _ (r : Opening) (s : OpenSays o plan marks rec count r) where
    abbrev fresh : List Line
    fresh = lines_of (length o.starts) (crossings plan) marks

    -- refused, with no line; or open, with as many as there are carriers
    by-opening : {P : Type 0} → ((x : paper.Refusal) → opening o plan marks count ≡ some x → r.held ≡ gathered [] → P)
        → (opening o plan marks count ≡ none → count ≡ length o.starts → length o.starts < most_bays → r.held ≡ gathered fresh → P) → P
    unfolding opening
    by-opening f g =
        by-option (opening o plan marks count)
        (λ u.
        let both = none_both (up_to_eleven o plan marks) _ u in
        g u (eqb-true _ _ (not-false _ (none-when _ (room (length o.starts)) both.1))) (fit_of o plan marks (sym both.0)).few (s.holds ∙ rw u))
        (λ x u. f x u (s.holds ∙ rw u))

    -- What opening leaves is what a report and the agreement test take for worked out afresh.
    pub opened-afresh : opening o plan marks count ≡ none → Afresh o.starts plan marks r.running (lines_held r.held)
    unfolding opened_record
    opened-afresh u =
        by-opening
        (λ x v e. never-some x (sym u ∙ v))
        (λ v k few e. (s.leaves ∙ rw u, ap lines_held e ∙ held-taken fresh (omega (arith, lines_long (length o.starts) (crossings plan) marks, few))))

    -- ## The lines over the first of those that are lent

    pub held-few : r.held.count ≤ most_bays
    held-few =
        by-opening
        (λ x u e. omega (arith, ap (λ (h : HeldLines). h.count) e))
        (λ u k few e. omega (arith, ap (λ (h : HeldLines). h.count) e, lines_long (length o.starts) (crossings plan) marks, few))

    pub held-room : r.held.count ≤ count
    held-room =
        by-opening
        (λ x u e. omega (arith, ap (λ (h : HeldLines). h.count) e))
        (λ u k few e. omega (arith, ap (λ (h : HeldLines). h.count) e, lines_long (length o.starts) (crossings plan) marks, k))

    pub held_whole : length r.held.lines ≡ most_bays
    held_whole = by-opening (λ x u e. ap (λ (h : HeldLines). length h.lines) e ∙ held-long []) (λ u k few e. ap (λ (h : HeldLines). length h.lines) e ∙ held-long fresh)

    pub lines-filled : (lines : List Line) → length lines ≡ count
        → lines_held r.held ++ drop r.held.count lines ≡ opened_lines o plan marks lines
    unfolding opened_lines laid
    lines-filled lines l =
        by-opening
        (λ x u e. ap (λ (h : HeldLines). lines_held h ++ drop h.count lines) e ∙ rw (l, u))
        (λ u k few e.
        let many : length fresh ≡ length o.starts = lines_long (length o.starts) (crossings plan) marks in
        let rest : drop (length fresh) lines ≡ [] = drop_of_length-le lines {i = length fresh} (omega (arith, l, many, k)) in
        ap (λ (h : HeldLines). lines_held h ++ drop h.count lines) e
        ∙ ap₂ (λ (a b : List Line). a ++ b) (held-taken fresh (omega (arith, many, few))) rest ∙ append-nil fresh ∙ rw (l, u))
