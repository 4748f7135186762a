use Rattle.std.proofs.Common.{◌∙◌, refl, arith}
use Rattle.first_bad.proofs.Firsts.{bad-here, bad-later, bad-nowhere}
use Rattle.first_bad.proofs.Rails.{rails-length, laid_none, rail-tested, rail-inside, rail-laid, lays-bad, lays_all}
use Rattle.first_bad.proofs.bad_rail.Goals as goal

pub loop-i-init : goal.loop-i-init
loop-i-init c = record { so_far = refl; laid = laid_none _ _ c.requires.2 }

pub returns-then-is_bad : goal.returns-then-is_bad
returns-then-is_bad c =
    let l = c.loop-i in
    lays-bad _ _ _ l.i (l.invariant.so_far ∙ bad-here _ _ _ l.i (omega (arith, rails-length c.args.rails.now)) (rail-tested _ _ l.i _ c.requires.0 (omega arith) l.invariant.laid _ c.is_bad.ensures ∙ c.if-is_bad.true))

-- both bays of a rail that is not bad are among the n, and so have their rows
pub lay-requires : goal.lay-requires
lay-requires c =
    let p = rail-inside _ _ c.loop-i.i _ c.requires.0 (omega arith) c.loop-i.invariant.laid _ c.is_bad.ensures c.if-is_bad.false in
    (omega (arith, p.0), omega (arith, p.1), omega (arith, p.0), omega (arith, p.1))

pub loop-i-preserved : goal.loop-i-preserved
loop-i-preserved c =
    let l = c.loop-i in
    let p = rail-inside _ _ l.i _ c.requires.0 (omega arith) l.invariant.laid _ c.is_bad.ensures c.if-is_bad.false in record {
      so_far = l.invariant.so_far ∙ bad-later _ _ _ l.i (omega (arith, rails-length c.args.rails.now)) (rail-tested _ _ l.i _ c.requires.0 (omega arith) l.invariant.laid _ c.is_bad.ensures ∙ c.if-is_bad.false);
      laid = rail-laid _ _ l.i _ c.requires.0 (omega arith) l.invariant.laid _ p.0 p.1 c.lay.ensures;
    }

pub returns : goal.returns
returns c = let l = c.loop-i in lays_all _ _ _ l.i (omega arith) (l.invariant.so_far ∙ bad-nowhere _ (0, 0) _ l.i (omega (arith, rails-length c.args.rails.now))) l.invariant.laid
