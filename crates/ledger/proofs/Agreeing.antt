-- The agreement test, way out by way out. What agrees has small numbers, so the step has room.
use mathlib.Core.Path.{◌≡◌, sym, ◌∙◌, ap}
use mathlib.Core.Bool.{true, false}
use mathlib.Core.List.{List, [], ◌∷◌}
use mathlib.Core.Option.{none, some}
use Prim.Native.Nat.{ℕ, ◌<◌, ◌≤◌}
use native.Mathlib.Omega.{arith}
use lib.Dec.{eqb}
use lib.ListN.{length, get_or, length-map, length-take}
use lib.Seq.{get_or-take}
use Rattle.paper.specs.Yard.{Carrier, Placement, Crossing, crossings, named}
use Rattle.paper.specs.Order.{Order}
use Rattle.paper.specs.Dependence.{done, done_of, count_of}
use Rattle.paper.proofs.Tests.{by_cases}
use Rattle.paper.proofs.Packing.{named-is}
use Rattle.docket.specs.Reading.{refusal_of}
use Rattle.docket.specs.declared.Refusal.{Refusal}
use Rattle.bills.specs.Billing.{line_of, no_line}
use Rattle.bills.specs.Answering.{agrees, differs, refused, up_to_eleven, agreement, agree}
use Rattle.bills.specs.declared.Line.{Line}
use Rattle.bills.specs.declared.Record.{Record}
use Rattle.bills.proofs.Stepping.{line-at, lines_long}
use Rattle.bills.proofs.Same.{Afresh}
use Rattle.bills.proofs.Keeping.{agrees-exactly}
use Rattle.held_lines.specs.Lines.{line_at, lines_held}
use Rattle.held_lines.specs.declared.HeldLines.{HeldLines}
use Rattle.settling.specs.Statements.{SettleAsks}
use Rattle.agreeing.specs.Statements.{Fit, all_same}
use Rattle.agreeing.proofs.Refusing.{fit_of}
use Rattle.agreeing.proofs.Standing.{fits_all}

-- no more are done than there are, nor billed than are done
done-few : (xs : List Crossing) (ms : List ℕ) → length (done_of xs ms) ≤ length xs
unfolding done_of
done-few [] ms = omega arith
done-few (x ∷ xs) [] = omega arith
done-few (x ∷ xs) (m ∷ ms) = let ih = done-few xs ms in by_cases (done m) (λ e. rw e (omega arith)) (λ e. rw e (omega arith))

count-few : (c : Carrier) (xs : List Crossing) → count_of c xs ≤ length xs
unfolding count_of
count-few c [] = omega arith
count-few c (x ∷ xs) = let ih = count-few c xs in by_cases (eqb x.carrier c) (λ e. rw e (omega arith)) (λ e. rw e (omega arith))

module _ (starts : Placement) (plan marks : List ℕ) (fit : Fit starts plan marks) (rec : Record) (held : HeldLines) where
  -- where they agree, record and lines have room for one more
  pub room-to-settle : Afresh starts plan marks rec (lines_held held) → SettleAsks plan marks rec held
  room-to-settle f =
      let d = done-few (crossings plan) marks in
      let l : length (crossings plan) ≡ length plan = length-map plan _ in
      record {
        even = fit.even;
        short = fit.short;
        fits = fits_all starts plan marks fit;
        not_all = rw (ap (λ (r : Record). r.done) f.0) (omega (arith, d, l, fit.short));
        not_full = λ name h.
            let c = (named (crossings plan) name).carrier in
            let there : c < length starts = rw (named-is plan name) (fit.fits name h).0 in
            let some-done = count-few c (done_of (crossings plan) marks) in
            rw (ap (λ (x : Line). x.billed) (line-afresh f c there)) (omega (arith, some-done, d, l, fit.short));
      }
    where
      line-afresh : Afresh starts plan marks rec (lines_held held) → (c : Carrier) → c < length starts → line_at held c ≡ line_of (crossings plan) marks c
      line-afresh f c h =
          let long = sym (length-take held.count held.lines) ∙ ap length f.1 ∙ lines_long (length starts) (crossings plan) marks in
          sym (get_or-take held.count held.lines c no_line (omega (arith, long, h))) ∙ ap (λ (ls : List Line). get_or ls c no_line) f.1
          ∙ line-at (length starts) (crossings plan) marks c no_line h

module _ (o : Order) (plan marks : List ℕ) (rec : Record) (held : HeldLines) where
  pub compare-refused : (r : Refusal) → some (refusal_of r) ≡ up_to_eleven o plan marks
      → refused (refusal_of r) ≡ agreement o plan marks rec (lines_held held)
  unfolding agreement
  compare-refused r h = rw (← h)

  module _ (passes : none ≡ up_to_eleven o plan marks) where
    pub compare-agrees : true ≡ all_same o.starts plan marks rec held → agrees ≡ agreement o plan marks rec (lines_held held)
    unfolding agreement agree
    compare-agrees a = rw (← passes, ← a)

    pub compare-differs : false ≡ all_same o.starts plan marks rec held → differs ≡ agreement o plan marks rec (lines_held held)
    unfolding agreement agree
    compare-differs a = rw (← passes, ← a)

  pub may-settle : agrees ≡ agreement o plan marks rec (lines_held held) → SettleAsks plan marks rec held
  may-settle h =
      let f = (agrees-exactly o plan marks rec (lines_held held)).0 (sym h) in
      room-to-settle o.starts plan marks (fit_of o plan marks (sym f.0)) rec held f.1
