-- `trial::try_at` meets its contract. The shortest path of a bay to itself is the bay alone, and to a bay beside it those two.
use Rattle.std.proofs.Common.{◌≡◌, sym, ◌∙◌, arith, rules}
use Rattle.paper.specs.Yard.{bay_of}
use Rattle.clear_on.proofs.Attempting.{in-bays}
use Rattle.trial.proofs.Copying.{path-own, alone-inside, path-beside, two-inside}
use Rattle.trial.proofs.try_at.Goals as goal

pub try_on-requires : goal.try_on-requires
try_on-requires c =
    let p = c.requires.ready in
    let z = c.requires.trial_asks in
    record { ready = p; trial_on_asks = record { asks = z; bays_inside = alone-inside _ _ (p.placed.inside c.args.trial.carrier.0 z.first); short = omega arith; some_bays = omega arith } }

pub returns-then-u-v : goal.returns-then-u-v
returns-then-u-v c =
    let z = c.requires.trial_asks in
    let own : bay_of c.args.placement.now c.args.trial.carrier.0 ≡ c.args.trial.junction.0 = c.if-u-v.true in
    record { few = c.try_on.ensures.few; attempts = λ t near. c.try_on.ensures.attempts t near (path-own near (in-bays t z.inside) own) }

pub overflow_cast-u : goal.overflow_cast-u
overflow_cast-u c =
    omega (arith, c.requires.ready.placed.inside c.args.trial.carrier.0 c.requires.trial_asks.first, c.requires.ready.most)

pub overflow_mul-u : goal.overflow_mul-u
overflow_mul-u c =
    omega (arith, c.requires.ready.placed.inside c.args.trial.carrier.0 c.requires.trial_asks.first, c.requires.ready.most)

pub overflow_add-u : goal.overflow_add-u
overflow_add-u c =
    omega (arith, c.requires.ready.placed.inside c.args.trial.carrier.0 c.requires.trial_asks.first, c.requires.ready.most, c.requires.trial_asks.inside)

pub is_in-requires : goal.is_in-requires
is_in-requires c =
    omega (arith, c.requires.ready.placed.inside c.args.trial.carrier.0 c.requires.trial_asks.first, c.requires.ready.most, c.requires.trial_asks.inside, c.requires.ready.table_size)

pub try_on-requires-then-is_in : goal.try_on-requires-then-is_in
try_on-requires-then-is_in c =
    let p = c.requires.ready in
    let z = c.requires.trial_asks in
    record { ready = p; trial_on_asks = record { asks = z; bays_inside = two-inside _ _ _ (p.placed.inside c.args.trial.carrier.0 z.first) z.inside; short = omega arith; some_bays = omega arith } }

pub returns-then-is_in : goal.returns-then-is_in
returns-then-is_in c =
    let if1 = c.if-u-v in
    let p = c.requires.ready in
    let z = c.requires.trial_asks in
    let rail = sym c.if-is_in.true ∙ c.is_in.ensures in
    record {
      few = c.try_on-then-is_in.ensures.few;
      attempts = λ t near. c.try_on-then-is_in.ensures.attempts t near (path-beside t _ _ p.most (p.placed.inside c.args.trial.carrier.0 z.first) z.inside if1.false rail);
    }
