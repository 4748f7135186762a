-- `home::home_at` meets its contract. The cases are the paper's: nobody's goal, already there, or one step away.
use Rattle.std.proofs.Common.{◌≡◌, refl, arith, rules, None, Some}
use Rattle.home.proofs.Homing.{whose-low, whose-high, stages-none, home-absent, home-there, home-steps, home-stuck, at_most, at-most-stuck}
use Rattle.home.proofs.home_at.Goals as goal

pub bounds-owner-bay : goal.bounds-owner-bay
bounds-owner-bay c =
    omega (arith, c.requires.home_asks.bay_there, c.requires.home_asks.owner_size)

pub overflow_cast-c : goal.overflow_cast-c
overflow_cast-c c =
    omega (arith, c.shared_slice_known-3-1.given c.args.home.bay.0)

pub returns-then-finished-c : goal.returns-then-finished-c
returns-then-finished-c c =
    let p = c.requires.ready in
    let z = c.requires.home_asks in
    let h = c.args.home in
    record {
      at_most = at_most (omega arith);
      stages = λ t goals many o. stages-none (home-absent _ _ _ _ _ _ (whose-high o h.finished h.bay.0 z.bay_there many c.if-finished-c.true) (omega arith)) p.placed;
      below = z.below;
    }

pub bounds-placement-c : goal.bounds-placement-c
bounds-placement-c c =
    omega (arith, c.if-finished-c.false, c.requires.home_asks.finished_there)

pub returns-then-placement-c : goal.returns-then-placement-c
returns-then-placement-c c =
    let if1 = c.if-finished-c in
    let p = c.requires.ready in
    let z = c.requires.home_asks in
    let h = c.args.home in
    record {
      at_most = at_most (omega arith);
      stages = λ t goals many o. stages-none (home-there _ _ _ _ _ _ (whose-low o h.finished h.bay.0 z.bay_there if1.false) if1.false c.if-placement-c.true) p.placed;
      below = z.below;
    }

pub overflow_cast-f : goal.overflow_cast-f
overflow_cast-f c =
    let p = c.requires.ready in
    omega (arith, c.if-finished-c.false, c.requires.home_asks.finished_there, p.placed.few, p.most)

pub step-one-requires : goal.step-one-requires
step-one-requires c =
    let if1 = c.if-finished-c in
    let z = c.requires.home_asks in
    let rail = z.due.beside if1.false c.if-placement-c.false in
    let there = z.finished_there in
    record {
      ready = c.requires.ready;
      step_asks = record {
        can = record { carrier_there = omega (arith, if1.false, there); finished_there = there; bay_there = z.bay_there; rail = rail; loopless = z.loopless };
        below = z.below;
      };
    }

pub returns-in_default : goal.returns-in_default
returns-in_default c =
    let step = c.step-one in
    let if2 = c.if-placement-c in
    let if1 = c.if-finished-c in
    let z = c.requires.home_asks in
    let h = c.args.home in
    let e : step.result ≡ None = c.in_default.is in
    record {
      at_most = at-most-stuck;
      stages = λ t goals many o.
          let whose = whose-low o h.finished h.bay.0 z.bay_there if1.false in
          home-stuck _ _ _ _ _ _ whose if1.false refl if2.false (rw e at (step.ensures.says.proceeds t));
      below = step.ensures.below;
    }

pub returns : goal.returns
returns c =
    let step = c.step-one in
    let if2 = c.if-placement-c in
    let if1 = c.if-finished-c in
    let z = c.requires.home_asks in
    let h = c.args.home in
    let e : step.result ≡ Some c.in-Some.done = c.in-Some.is in
    let few = rw e at step.ensures.says.few in
    record {
      at_most = at_most few;
      stages = λ t goals many o.
          let whose = whose-low o h.finished h.bay.0 z.bay_there if1.false in
          home-steps _ _ _ _ _ _ whose if1.false if2.false (rw e at (step.ensures.says.proceeds t));
      below = step.ensures.below;
    }
