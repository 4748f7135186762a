-- Each turn is one of the pass of proofs/Working, and then the last names lead the carriers.
use Rattle.std.proofs.Common.{◌≡◌, eqb, eq-eqb, ne_eqb, sym, arith}
use Rattle.std.specs.Prelude.{if◌then◌else◌}
use Rattle.paper.specs.Limits.{most_bays}
use Rattle.plans.proofs.Rest.{fits-named}
use Rattle.slots.proofs.Passing.{turn-asks}
use Rattle.afresh.proofs.Working.{working-start, working-done, working-undone, working-end}
use Rattle.afresh.proofs.bill_done.Goals as goal
use Rattle.afresh.proofs.bill_done.Goals.{then-i-name, else-i-name, then-marks-i-eq1, else-marks-i-eq1}

pub loop-i-init : goal.loop-i-init
loop-i-init c = rw (c.requires.4, c.requires.5) (working-start _ _ _ _ c.requires.1)

pub next_slot-slot-requires : goal.next_slot-slot-requires
next_slot-slot-requires c = turn-asks c.loop-i.invariant.rising.tables (omega arith) c.requires.2 c.crossing_at-x.ensures c.requires.1

pub bounds-billed-carrier : goal.bounds-billed-carrier
bounds-billed-carrier c = (fits-named most_bays most_bays _ c.requires.2 _ (omega arith) _ c.crossing_at-x.ensures).0

pub bounds-billed-carrier-then-marks-i-eq1 : goal.bounds-billed-carrier-then-marks-i-eq1
bounds-billed-carrier-then-marks-i-eq1 c = (fits-named most_bays most_bays _ c.requires.2 _ (omega arith) _ c.crossing_at-x.ensures).0

pub bounds-last-carrier : goal.bounds-last-carrier
bounds-last-carrier c = (fits-named most_bays most_bays _ c.requires.2 _ (omega arith) _ c.crossing_at-x.ensures).0

pub loop-i-preserved : goal.loop-i-preserved
loop-i-preserved c =
    let asked : c.if-i-name.asked ≡ (if eqb c.args.name c.loop-i.i then c.next_slot-slot.result else c.loop-i.asked) =
    elim c.if-i-name.branch [
      | then-i-name w ↦ rw (w.asked-is, eq-eqb _ _ (sym w.if-i-name.true))
      | else-i-name w ↦ rw (w.asked-is, ne_eqb _ _ (λ e. w.if-i-name.false (sym e)))
    ] in
    elim c.if-marks-i-eq1.branch [
      | then-marks-i-eq1 w ↦ rw (w.billed-is, w.last-is, w.highest-is, w.max-highest.ensures)
          (working-done _ _ c.requires.0 c.requires.2 _ _ c.requires.3 _ _ _ _ _ _ _ c.loop-i.invariant (omega arith) _ c.crossing_at-x.ensures _ _ _ c.next_slot-slot.ensures _ asked w.if-marks-i-eq1.true)
      | else-marks-i-eq1 w ↦ rw (w.billed-is, w.last-is, w.highest-is)
          (working-undone _ _ c.requires.0 c.requires.2 _ _ c.requires.3 _ _ _ _ _ _ _ c.loop-i.invariant (omega arith) _ c.crossing_at-x.ensures _ _ _ c.next_slot-slot.ensures _ asked w.if-marks-i-eq1.false)
    ]

pub returns : goal.returns
returns c = working-end _ _ c.requires.0 c.requires.2 _ _ c.requires.3 _ _ _ _ _ _ _ c.loop-i.invariant (omega arith) _ c.lead.ensures
