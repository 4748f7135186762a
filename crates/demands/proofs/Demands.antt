-- The user's demands, which specs/Demands states, as theorems about the definitions. Their proofs cite the laws; here they are in one place and in order.
use mathlib.Core.Path.{◌≡◌, ◌∙◌, ap}
use mathlib.Core.List.{List, map}
use mathlib.Core.Option.{none}
use Prim.Native.Nat.{ℕ, suc}
use native.Mathlib.Omega.{arith}
use lib.ListN.{length, length-map}
use Rattle.paper.specs.Yard.{Crossing, after, unpack, crossings, pack}
use Rattle.paper.specs.Order.{Order}
use Rattle.paper.specs.Dependence.{count_of}
use Rattle.paper.specs.Docket.{yard_of}
use Rattle.paper.specs.Answers.{check, report, accepted, plan, written, slots_end}
use Rattle.paper.specs.Log.{Request, answer_to, marks_of}
pub use Rattle.demands.specs.Demands.{Demand1, Demand2, Demand3}
use Rattle.paper.proofs.Tests.{not-both}
use Rattle.paper.proofs.Planning.{accepted-exactly, stopped-exactly, room-exactly, accepted-right, plan_written}
use Rattle.paper.proofs.Slotting.{slots-rise, slots-lowest}
use Rattle.paper.proofs.Checking.{check-passed}
use Rattle.paper.proofs.Reporting.{accept-facts, facts-accept, done-already, report-accepts}
use Rattle.laws.proofs.Logging.{fine-marks, some-ready, all_done, unaccepted, plan-lawful, right-from-fresh}
use Rattle.laws.proofs.Handing.{handed-passes}

pub demand-1 : (o : Order) → Demand1 o
unfolding written slots_end
demand-1 o = record {
  plan_refused = λ lent r h. rw h;
  slots_refused = λ crossed lent r h. rw h;
  not_accepted = λ crossed marks name h. unaccepted marks name (report o crossed marks name) h;
  plan_written = plan_written o;
  slots_written = λ crossed lent h. rw h;
}

pub demand-2 : (o : Order) → Demand2 o
demand-2 o = record {
  legal_home = accepted-right o;
  the_procedure = accepted-exactly o;
  stops = stopped-exactly o;
  no_room = room-exactly o;
  slots_rise_along = slots-rise;
  slots_are_lowest = slots-lowest;
  accepts_exactly = λ crossed marks p f. report-accepts o crossed marks p f;
}

module _ (o : Order) (plan : List ℕ) (passes : check o plan ≡ none) where
  pub demand-3 : (qs : List Request) → Demand3 o plan qs
  demand-3 qs =
      let Y = yard_of o in
      let xs = crossings plan in
      let ms = marks_of plan qs in
      let k = right-from-fresh o plan passes qs in
      let lawful = plan-lawful o plan passes in
      let ok = fine-marks o plan passes qs in
      let len : length xs ≡ length plan = length-map plan unpack in
      record {
        lawful = k.lawful;
        same = k.same;
        marked = λ i. (k.marked i, λ m. (k.names i m).1);
        once = k.once;
        repeats = λ q m. unaccepted ms q.name (answer_to plan ms q)
            (λ h. not-both (k.names q.name m).1 (accept-facts q.order plan ms q.name h).3);
        answered = λ i m. let f = k.names i m in done-already o plan ms passes ok i f.0 f.1;
        unchanged = λ q h. unaccepted ms q.name (answer_to plan ms q) h;
        goes_on = λ i h d.
            let r = some-ready Y o.starts xs lawful ms (suc i) i (omega arith) (rw len h) d in
            (r.0, facts-accept o plan ms passes ok r.0 r.1 r.2 r.3);
        all_home = λ f.
            let whole = all_done xs ms k.long (λ i h. f i (rw len at h)) in
            (k.same ∙ ap (after o.starts) whole ∙ (check-passed o plan passes).home, λ c. k.counts c ∙ ap (count_of c) whole);
      }

-- Every plan handed out passes the check, so demand 3 is of every such plan.
pub handed-demand-3 : (o : Order) (lent : ℕ) (xs : List Crossing) → plan o lent ≡ accepted xs
    → (qs : List Request) → Demand3 o (map pack xs) qs
handed-demand-3 o lent xs h qs = demand-3 o (map pack xs) (handed-passes o lent xs h).0 qs
