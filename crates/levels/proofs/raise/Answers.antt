use Rattle.std.proofs.Common.{◌≡◌, ◌-◌, ◌*◌, ◌/◌, length, arith}
use Rattle.words.specs.Sets.{words}
use Rattle.levels.proofs.Levels.{some-levels, raised-more, raised-fewer, raise-says}
use Rattle.levels.proofs.raise.Goals as goal

pub returns-then-stands_twice : goal.returns-then-stands_twice
returns-then-stands_twice c =
    let l = c.loop-top in
    let more = raised-more _ _ c.requires.rails l.top (l.top - 1) _ _ (omega arith) l.invariant c.raise_level.ensures in
    raise-says _ _ c.requires.rails _ _ c.requires.some_bay (omega arith) (omega arith) (omega arith) (raised-fewer _ _ c.requires.rails _ _ more)

pub loop-top-preserved : goal.loop-top-preserved
loop-top-preserved c =
    let l = c.loop-top in
    raised-more _ _ c.requires.rails l.top (l.top - 1) _ _ (omega arith) l.invariant c.raise_level.ensures

pub returns : goal.returns
returns c =
    let some = some-levels _ _ c.requires.some_bay c.requires.table_size in
    let all : c.loop-top.top ≡ length c.args.table.now / (c.args.n * words) = omega arith in
    raise-says _ _ c.requires.rails _ _ c.requires.some_bay (omega arith) (omega arith) (omega arith) (rw all at c.loop-top.invariant)
