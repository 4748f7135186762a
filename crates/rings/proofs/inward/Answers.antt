use Rattle.std.proofs.Common.{◌≡◌, ◌+◌, set, arith}
use Rattle.rings.specs.Ways.{Inside}
use Rattle.rings.proofs.Reading.{Walked, walked_none, walked_more, walked-inside, read_all}
use Rattle.rings.proofs.inward.Goals as goal

pub loop-i-init : goal.loop-i-init
loop-i-init c =
    let t = c.requires.inside in
    (walked-inside t 0 _ _ (walked_none t c.args.path.now), λ t. walked_none t _)

pub loop-i-preserved : goal.loop-i-preserved
loop-i-preserved c =
    let a = c.args in
    let p = c.requires in
    let l = c.loop-i in
    let on : (t : Inside a.n a.table.now a.rows.now a.d a.x.0) → Walked t (l.i + 1) c.lowest_common-u.result (set l.path l.i l.u) =
    λ t. walked_more t l.i l.u c.lowest_common-u.result l.path p.lent.most c.loop-i-test.true (omega arith) (l.invariant.1 t) c.lowest_common-u.ensures in
    (walked-inside p.inside _ _ _ (on p.inside), on)

pub returns : goal.returns
returns c =
    let all : c.loop-i.i ≡ c.args.d = omega arith in
    record { path = λ t. read_all t.yard t.held t.goal _ _ _ _ _ (omega arith) (omega arith) (rw all at (c.loop-i.invariant.1 t)) }
