use Rattle.std.proofs.Common.{refl, sym, ◌∙◌, arith}
use Rattle.outlook.proofs.Looking.{rows, inside-first, inside-more, look-first, look-more, look-last}
use Rattle.outlook.proofs.open_sides.Goals as goal

pub loop-init : goal.loop-init
loop-init c =
    (refl, inside-first _ _ _ c.requires.inside c.alone.ensures, λ v h s. look-first _ _ _ _ _ _ h s c.keep.ensures c.join.ensures c.alone.ensures)

pub returns-then-meets : goal.returns-then-meets
returns-then-meets c = record { most = omega arith; stays = λ v h s. rw c.loop.invariant.0 s }

pub widen-requires : goal.widen-requires
widen-requires c = (omega arith, omega arith, rows c.args.table.now c.requires.table_size c.loop.invariant.1)

pub returns-then-is_empty : goal.returns-then-is_empty
returns-then-is_empty c =
    record {
      most = omega arith;
      stays = λ v h s. look-last h (c.loop.invariant.2 v h s) (sym c.is_empty.ensures ∙ c.if-is_empty.true) c.keep-then-is_empty.ensures;
    }

pub loop-preserved : goal.loop-preserved
loop-preserved c =
    let l = c.loop.invariant in
    (l.0, inside-more c.requires.charted l.1 c.widen.ensures, λ v h s. look-more h (l.2 v h s) (sym c.meets.ensures ∙ c.if-meets.false) c.widen.ensures)

pub returns : goal.returns
returns c = record { most = omega arith; stays = λ v h s. rw c.loop.invariant.0 s }
