use Rattle.std.proofs.Common.{arith}
use Rattle.levels.proofs.Levels.{level-begun, level-more, rails-kept}
use Rattle.levels.proofs.raise_level.Goals as goal

pub loop-x-init : goal.loop-x-init
loop-x-init c = level-begun _ _ _

pub raise_row-requires : goal.raise_row-requires
raise_row-requires c =
    let rails = rails-kept _ c.args.j _ c.requires.rails _ (λ x y l i. c.loop-x.invariant.lower x y (omega arith) i) in
    record { inside = omega arith; room = omega arith; rails = λ b h m. rails _ b (omega arith) h m }

pub loop-x-preserved : goal.loop-x-preserved
loop-x-preserved c = level-more _ _ _ c.requires.rails _ _ _ (omega arith) c.loop-x.invariant c.raise_row.ensures
