-- `moving::move_on` meets its contract. The carrier is read before anything is written, and each list is set at one place.
use Rattle.std.proofs.Common.{refl, ap, ◌∙◌, arith, set, rules}
use Rattle.moving.proofs.move_on.Goals as goal

pub overflow_cast-crossing : goal.overflow_cast-crossing
overflow_cast-crossing c = omega (arith, c.slice_known-4-1.given c.args.a.0)

pub returns : goal.returns
returns c =
    let a = c.args in record {
      moved = refl;
      shown = refl;
      stored = c.store.ensures.0 ∙ ap (set a.out.now a.at) c.pack.ensures;
      counted = c.store.ensures.1;
    }
