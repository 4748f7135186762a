use Rattle.std.proofs.Common.{arith}
use Rattle.paper.specs.Yard.{crossings}
use Rattle.words.specs.Sets.{mem}
use Rattle.dropping.proofs.Noting.{noted_one}
use Rattle.dropping.proofs.note_one.Goals as goal

pub returns : goal.returns
returns c =
    let leaving = c.last_leaving-leaving in
    record {
      low = omega (arith, c.min.ensures);
      noted = noted_one c.args.gone.now (crossings c.args.plan.now) c.args.carrier.0 c.args.name c.min.result leaving.result (mem c.args.todo.now) _ c.add.ensures
          (omega (arith, c.min.ensures)) (λ k l. leaving.ensures.is_last k l);
      linked = leaving.ensures.linked;
    }
