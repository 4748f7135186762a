-- The comparison, way out by way out: the record first, then the lines, each with what is worked out afresh.
use mathlib.Core.Path.{◌≡◌, sym, ◌∙◌, ap}
use mathlib.Core.Bool.{Bool, true, false}
use mathlib.Core.List.{List}
use Prim.Native.Nat.{ℕ, ◌<◌}
use native.Mathlib.Omega.{arith}
use lib.ListN.{length}
use Rattle.paper.specs.Basics.{◌and◌}
use Rattle.paper.specs.Limits.{most_bays}
use Rattle.paper.specs.Yard.{Placement, crossings}
use Rattle.bills.specs.Billing.{record_of, lines_of}
use Rattle.bills.specs.Answering.{same_record, same_lines}
use Rattle.bills.specs.declared.Line.{Line}
use Rattle.bills.specs.declared.Record.{Record}
use Rattle.bills.proofs.Stepping.{lines_long}
use Rattle.held_lines.specs.Lines.{gathered, lines_held}
use Rattle.held_lines.specs.declared.HeldLines.{HeldLines}
use Rattle.held_lines.proofs.Laid.{held-taken}
use Rattle.agreeing.specs.Statements.{Fit, all_same}

module _ (starts : Placement) (plan marks : List ℕ) (fit : Fit starts plan marks) (rec : Record) (held : HeldLines) where
  abbrev afresh : List Line
  afresh = lines_of (length starts) (crossings plan) marks

  afresh-few : length afresh < most_bays
  afresh-few = rw lines_long fit.few

  pub fresh-few : (fresh : HeldLines) → fresh ≡ gathered afresh → fresh.count < most_bays
  fresh-few fresh e = rw (ap (λ (h : HeldLines). h.count) e) afresh-few

  pub agree-not : same_record rec (record_of starts (crossings plan) marks) ≡ false → false ≡ all_same starts plan marks rec held
  unfolding ◌and◌
  agree-not d = sym (rw d)

  pub agree-lines : same_record rec (record_of starts (crossings plan) marks) ≡ true → (fresh : HeldLines) → fresh ≡ gathered afresh
      → (r : Bool) → r ≡ same_lines (lines_held held) (lines_held fresh) → r ≡ all_same starts plan marks rec held
  unfolding ◌and◌
  agree-lines t fresh e r s = s ∙ ap (same_lines (lines_held held)) (ap lines_held e ∙ held-taken afresh (omega (arith, afresh-few))) ∙ sym (rw t)
