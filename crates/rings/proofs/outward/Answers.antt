use Rattle.std.proofs.Common.{◌≡◌, ◌+◌, set, arith}
use Rattle.rings.specs.Ways.{Outside}
use Rattle.rings.proofs.Reading.{read_all}
use Rattle.rings.proofs.Narrowing.{Going, going-first, going-inside, going_more}
use Rattle.rings.proofs.outward.Goals as goal

pub loop-i-init : goal.loop-i-init
loop-i-init c =
    let t = c.requires.outside in
    (going-inside t 0 _ _ (going-first t c.args.path.now), λ t. going-first t _)

pub loop-i-preserved : goal.loop-i-preserved
loop-i-preserved c =
    let a = c.args in
    let p = c.requires in
    let l = c.loop-i in
    let on : (t : Outside a.n a.table.now a.rows.now a.d a.x.0) → Going t (l.i + 1) c.lowest_common-u.result (set l.path l.i l.u) =
    λ t. going_more t l.i l.u c.lowest_common-u.result l.path p.lent.most c.loop-i-test.true (omega arith) (l.invariant.1 t) c.lowest_common-u.ensures in
    (going-inside p.outside _ _ _ (on p.outside), on)

pub returns : goal.returns
returns c =
    let all : c.loop-i.i ≡ c.args.d = omega arith in
    record { path = λ t. read_all t.yard t.held t.goal _ _ _ _ _ (omega arith) (omega arith) (rw all at (c.loop-i.invariant.1 t).read) }
