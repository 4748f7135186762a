use Rattle.std.proofs.Common.{◌≡◌, suc, ◌+◌, ◌-◌, ◌≤◌, refl, sym, ◌∙◌, ap, arith}
use Rattle.docket.specs.Reading.{crossing_of}
use Rattle.paper.specs.Yard.{crossings, named}
use Rattle.chains.specs.Links.{own, sought}
use Rattle.returning.specs.Returns.{last_from}
use Rattle.returning.proofs.Returning.{returning-past, returning-back, returning-barred, returning-end, returning-over}
use Rattle.returning.proofs.last_return.Goals as goal
use Rattle.returning.proofs.last_return.Goals.{then-gone-m-eq0+then-y-x+else-y-x-2, else-gone-m-eq0, else-gone-m-eq0-via-then-gone-m-eq0+else-y-x, else-gone-m-eq0-via-else-gone-m-eq0}

pub ahead-m-requires : goal.ahead-m-requires
unfolding own sought
ahead-m-requires c =
    record { search = c.requires; kind_up = omega arith; again_up = omega arith; goes_by = refl; seeks = refl }

pub loop-m-init : goal.loop-m-init
unfolding own sought
loop-m-init c =
    let plan = c.args.plan.now in
    let name = c.args.name in
    let says = c.ahead-m.ensures in
    let is = ap (λ y. y.from) (sym c.crossing_at-x.ensures) in
    record {
      after = says.after;
      upto = says.upto;
      before = says.after;
      linked = says.linked;
      found = returning-over plan c.args.gone.now c.requires.long_gone (crossing_of c.crossing_at-x.result) name (named (crossings plan) name).from
          (c.ahead-m.result - suc name) (suc name) c.ahead-m.result (omega (arith, says.after)) says.upto is says.met.passed;
      meets = λ l. says.met.meets l ∙ is;
    }

pub returns-then-y-x-2 : goal.returns-then-y-x-2
returns-then-y-x-2 c =
    let plan = c.args.plan.now in
    let gone = c.args.gone.now in
    let t = c.loop-m in
    let x = crossing_of c.crossing_at-x.result in
    let y = c.crossing_at-y.ensures in
    let barred = returning-barred plan gone c.requires.long_gone x t.last t.m c.loop-m-test.true c.if-gone-m-eq0.true
    (ap (λ y. y.to) (sym y) ∙ c.if-y-x.true) (λ e. c.if-y-x-2.true (ap (λ y. y.carrier) y ∙ e)) in
    (omega (arith, t.invariant.before, t.invariant.upto), barred ∙ t.invariant.found ∙ ap (λ y. last_from y (crossings plan) gone c.args.name (suc c.args.name)) c.crossing_at-x.ensures, t.invariant.linked)

pub ahead-m-requires-in-loop-m : goal.ahead-m-requires-in-loop-m
unfolding own sought
ahead-m-requires-in-loop-m c =
    record { search = record { inside = c.loop-m-test.true; long_gone = c.requires.long_gone; linked = c.loop-m.invariant.linked }; kind_up = omega arith; again_up = omega arith; goes_by = refl; seeks = refl }

pub loop-m-preserved : goal.loop-m-preserved
unfolding own sought
loop-m-preserved c =
    let plan = c.args.plan.now in
    let gone = c.args.gone.now in
    let long = c.requires.long_gone in
    let t = c.loop-m in
    let x = crossing_of c.crossing_at-x.result in
    let y = c.crossing_at-y.ensures in
    let inside = c.loop-m-test.true in
    let says = c.ahead-m-in-loop-m.ensures in
    let r = c.ahead-m-in-loop-m.result in
    let last = c.if-gone-m-eq0.last in
    let meets = t.invariant.meets inside in
    let step : (last ≤ t.m) × (last_from x (crossings plan) gone last (t.m + 1) ≡ last_from x (crossings plan) gone t.last t.m) =
    elim c.if-gone-m-eq0.branch [
      | then-gone-m-eq0+then-y-x+else-y-x-2 w ↦
          let is : last ≡ t.m = grind arith in
          rw is (omega arith, returning-back plan gone long x t.last t.m inside w.if-gone-m-eq0.true meets (ap (λ y. y.carrier) (sym y) ∙ w.if-y-x-2.false))
      | else-gone-m-eq0 w ↦
          rw w.last-is (
            omega (arith, t.invariant.before),
            elim w.else-gone-m-eq0.branch [
              | else-gone-m-eq0-via-then-gone-m-eq0+else-y-x v ↦ absurd (v.if-y-x.false (ap (λ y. y.to) y ∙ meets))
              | else-gone-m-eq0-via-else-gone-m-eq0 v ↦ returning-past plan gone long x t.last t.m inside (λ z e. v.if-gone-m-eq0.false z)
            ],
          )
    ] in
    record {
      after = omega (arith, t.invariant.after, says.after);
      upto = says.upto;
      before = omega (arith, step.0, says.after);
      linked = says.linked;
      found = returning-over plan gone long x last (named (crossings plan) t.m).to (r - (t.m + 1)) (t.m + 1) r (omega (arith, says.after)) says.upto meets (λ k u h e. says.met.passed k (omega arith) h e)
          ∙ step.1 ∙ t.invariant.found;
      meets = λ u. says.met.meets u ∙ meets;
    }

pub returns : goal.returns
returns c =
    let plan = c.args.plan.now in
    let gone = c.args.gone.now in
    let t = c.loop-m in
    (omega (arith, t.invariant.upto, t.invariant.before), returning-end plan gone c.requires.long_gone (crossing_of c.crossing_at-x.result) t.last t.m c.loop-m-test.false ∙ t.invariant.found ∙ ap (λ y. last_from y (crossings plan) gone c.args.name (suc c.args.name)) c.crossing_at-x.ensures, t.invariant.linked)
