-- `scouts::hope` meets its contract.
use Rattle.std.proofs.Common.{sym, ◌∙◌, arith, rules}
use Rattle.paper.proofs.Tests.{never}
use Rattle.scouts.proofs.Foreseeing.{fails-passing}
use Rattle.scouts.proofs.hope.Goals as goal

pub passes-requires : goal.passes-requires
passes-requires c =
    let p = c.requires.ready in
    let z = c.requires.foresee_asks in
    record { size = z.scouted.stuck_size; low = λ k h. omega (arith, z.on_path.bays_inside k h, p.most) }

pub returns-then-passes : goal.returns-then-passes
returns-then-passes c =
    let p = c.requires.ready in
    let z = c.requires.foresee_asks in
    let w = c.passes.ensures c.if-passes.true in
    record { scouted = z.scouted; fails = λ e t b. fails-passing p z t b w }

pub foresee-requires : goal.foresee-requires
foresee-requires c = c.requires

pub returns-then-scouts : goal.returns-then-scouts
returns-then-scouts c = c.foresee.ensures

pub returns : goal.returns
returns c =
    let z = c.requires.foresee_asks in
    record {
      scouted = record {
        stuck_size = z.scouted.stuck_size;
        scouting = λ t b. let k = z.scouted.scouting t b in record { ours = k.ours; theirs = k.theirs; stuck = k.stuck };
      };
      fails = λ e. never (cc);
    }
