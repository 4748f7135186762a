use Rattle.std.proofs.Common.{◌≡◌, ◌-◌, suc, arith}
use Rattle.rings.proofs.Narrowing.{narrowing-first, narrowing-inside, narrowing-more, narrowing-all, ended-kept}
use Rattle.rings.proofs.narrow.Goals as goal

pub loop-i-init : goal.loop-i-init
loop-i-init c = λ t. narrowing-first t _ c.alone.ensures c.keep.ensures.row

pub keep_beside-requires : goal.keep_beside-requires
keep_beside-requires c =
    let p = c.requires in
    let l = c.loop-i in
    let t = ended-kept p.ended c.keep.ensures in
    record {
      kept_size = omega arith;
      row_there = omega (arith, p.lent.rows_size);
      inside = λ a h m. let low = narrowing-inside t p.lent.most _ _ _ (l.invariant t) a h m in omega (arith, low, p.lent.table_size);
    }

pub loop-i-preserved : goal.loop-i-preserved
loop-i-preserved c =
    let l = c.loop-i in
    λ t. let e : l.i ≡ suc (l.i - 1) = omega arith in
    narrowing-more t c.requires.lent.most _ _ _ _ _ (omega arith) (rw e at (l.invariant t)) c.keep_beside.ensures

pub returns : goal.returns
returns c = record { narrowed = λ t. narrowing-all t c.keep.ensures _ _ _ (omega arith) (c.loop-i.invariant (ended-kept t c.keep.ensures)) }
