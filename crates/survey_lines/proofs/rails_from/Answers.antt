use Rattle.std.proofs.Common.{◌≡◌, ◌+◌, ◌*◌, arith}
use Rattle.survey_lines.proofs.Parts.{written_none, written-rail, written_all}
use Rattle.survey_lines.proofs.rails_from.Goals as goal

pub loop-k-init : goal.loop-k-init
loop-k-init c = written_none c.args.rails.now c.args.out.now c.args.at

pub rail-end-requires : goal.rail-end-requires
rail-end-requires c = omega (arith, c.loop-k.invariant.short)

pub loop-k-preserved : goal.loop-k-preserved
loop-k-preserved c =
    let k = c.loop-k.k in
    let e : 2 * k + 2 ≡ 2 * (k + 1) = omega arith in
    rw e at (written-rail (2 * k) (omega arith) c.loop-k.invariant c.rail-end.ensures.0 c.rail-end.ensures.1)

pub returns : goal.returns
returns c =
    record { wrote = written_all (2 * c.loop-k.k) (omega arith) c.loop-k.invariant; short = omega (arith, c.loop-k.invariant.short) }
