use Rattle.std.proofs.Common.{◌-◌, ◌*◌, length, refl, arith, length-take, length-drop}
use Rattle.words.specs.Sets.{words}
use Rattle.levels.proofs.Levels.{near-inside, row-raised}
use Rattle.levels.proofs.raise_row.Goals as goal

pub beside-requires : goal.beside-requires
beside-requires c =
    let near = near-inside _ 0 _ _ _ c.join_row.ensures c.requires.rails in
    (omega arith, refl, λ a h m. let l = near a h m in simp (length-take, length-drop) (omega arith))

pub returns : goal.returns
returns c =
    let part = length c.args.table.now - c.args.j * c.args.n * words in
    row-raised _ _ _ _ _ c.join_row.ensures c.requires.rails part _ _ _ (omega arith) c.beside.ensures c.join_row-2.ensures c.keep.ensures
