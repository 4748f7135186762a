-- What the pass over the done crossings leaves is record and lines worked out afresh.
use mathlib.Core.Path.{◌≡◌, refl, ◌∙◌, ap}
use mathlib.Core.List.{List, ◌++◌}
use Prim.Native.Nat.{ℕ, ◌-◌}
use native.Mathlib.Omega.{arith}
use lib.ListN.{length, drop, replicate, length-append, length-replicate}
use Rattle.paper.specs.Limits.{most_bays}
use Rattle.paper.specs.Yard.{Placement, crossings, after}
use Rattle.paper.specs.Dependence.{done_of}
use Rattle.bills.specs.Billing.{places}
use Rattle.bills.proofs.Stepping.{record-parts}
use Rattle.afresh.specs.Working.{Billed}
use Rattle.afresh.specs.declared.Slots.{Slots}
use Rattle.held_lines.specs.Lines.{gathered, listed}
use Rattle.agreeing.specs.Statements.{Fit, WorkedOut}
use Rattle.held_lines.specs.declared.HeldLines.{HeldLines}
use Rattle.agreeing.proofs.Standing.{over_zeros, stands}
use Rattle.held_lines.proofs.Listing.{listed-afresh}

module _ (starts : Placement) (plan marks : List ℕ) (fit : Fit starts plan marks) (at : Placement)
    (e : at ≡ starts ++ drop (length starts) (replicate most_bays 0)) where
  placed : at ≡ places starts
  placed = e ∙ over_zeros starts (replicate most_bays 0) refl

  pub placed-long : length at ≡ most_bays
  placed-long =
      let a = length-append starts (replicate (most_bays - length starts) 0) in
      let z = length-replicate {A = ℕ} (most_bays - length starts) 0 in
      ap length placed ∙ omega (arith, a, z, fit.few)

  pub worked-out : (name : ℕ) (at' billed last : List ℕ) (r : Slots) → Billed plan marks name at at' billed last r
      → (done : ℕ) → done ≡ length (done_of (crossings plan) marks)
      → (held : HeldLines) → held ≡ gathered (listed (length starts) billed last)
      → WorkedOut starts plan marks name (record { running = record { at = at'; done = done; highest = r.highest }; held = held; slot = r.asked })
  worked-out name at' billed last r b done d held h = record {
    is_record = record-parts _ _ (b.stand ∙ ap (λ a. after a (done_of (crossings plan) marks)) placed ∙ stands starts plan marks fit) d b.highest;
    is_held = h ∙ ap gathered (listed-afresh (length starts) billed last (crossings plan) marks (omega (arith, fit.few)) b.counts b.names);
    is_slot = b.asked;
  }
