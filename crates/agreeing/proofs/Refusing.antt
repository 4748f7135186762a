-- The refusals up to 11, way out by way out, and what is known once none of them holds.
use mathlib.Core.Path.{◌≡◌, sym, ◌∙◌}
use mathlib.Core.Bool.{true, false}
use mathlib.Core.List.{List}
use mathlib.Core.Option.{none, some}
use Prim.Native.Nat.{ℕ}
use native.Mathlib.Omega.{arith}
use lib.ListN.{length, length-map}
use Rattle.paper.specs.Limits.{most_bays}
use Rattle.paper.specs.Yard.{crossings}
use Rattle.paper.specs.Order.{Order}
use Rattle.paper.specs.OnePass.{Fits}
use Rattle.paper.specs.Docket.{bad_marks, mismarked}
use Rattle.paper.specs.Docket as paper
use Rattle.paper.specs.Answers.{check}
use Rattle.paper.proofs.Admitted.{clean_of}
use Rattle.paper.proofs.Checking.{check-passed}
use Rattle.laws.proofs.Handing.{check-fits}
use Rattle.paper.proofs.Packing.{named-is}
use Rattle.paper.proofs.Reporting.{marks-long}
use Rattle.bills.specs.Answering.{up_to_eleven}
use Rattle.bills.proofs.Stepping.{carrier_there}
use Rattle.bills.proofs.Keeping.{eleven-exactly}
use Rattle.agreeing.specs.Statements.{Fit}

module _ (o : Order) (plan marks : List ℕ) where
  pub eleven-refused : (r : paper.Refusal) → some r ≡ check o plan → some r ≡ up_to_eleven o plan marks
  unfolding up_to_eleven
  eleven-refused r h = rw (← h)

  module _ (passes : none ≡ check o plan) where
    pub eleven-marks : bad_marks (crossings plan) marks ≡ true → some mismarked ≡ up_to_eleven o plan marks
    unfolding up_to_eleven
    eleven-marks b = rw (← passes, b)

    pub eleven-none : bad_marks (crossings plan) marks ≡ false → none ≡ up_to_eleven o plan marks
    unfolding up_to_eleven
    eleven-none b = rw (← passes, b)

    pub check-gives-fits : Fits most_bays most_bays plan
    check-gives-fits = check-fits o plan (sym passes)

  -- once none of them holds, all numbers fit
  pub fit_of : none ≡ up_to_eleven o plan marks → Fit o.starts plan marks
  fit_of h =
      let e = (eleven-exactly o plan marks).0 (sym h) in
      let p = check-passed o plan e.0 in
      let k = clean_of o (length plan) p.sound in
      let all = check-fits o plan e.0 in
      record {
        even = marks-long (crossings plan) marks e.1 ∙ length-map plan _;
        short = k.sizes.short-plan;
        few = omega (arith, k.uncrowded, k.sizes.few_bays);
        fits = λ i h'. (rw (← named-is plan i) (carrier_there _ o.starts (crossings plan) i p.lawful (rw length-map h')), (all i h').1, (all i h').2);
      }
