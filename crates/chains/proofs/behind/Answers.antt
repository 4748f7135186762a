use Rattle.std.proofs.Common.{refl, arith}
use Rattle.chains.proofs.Linking.{down-on, down-found, linked-behind}
use Rattle.chains.proofs.behind.Goals as goal

pub returns : goal.returns
returns c =
    let plan = c.args.plan.now in
    let gone = c.args.gone.now in
    let name = c.args.name in
    let r = c.skip_back-r.result in
    let lead = c.requires.linked.behind 3 name (omega arith) (omega arith) c.requires.inside in
    let found = down-on plan gone name _ _ r refl lead c.skip_back-r.ensures.met in
    record {
      upto = omega (arith, lead.down, c.skip_back-r.ensures.upto);
      met = found;
      linked = linked-behind plan gone c.args.links.now c.requires.linked name 3 r c.requires.inside (omega arith) (omega arith)
          (down-found plan gone name r r refl (omega (arith, lead.down, c.skip_back-r.ensures.upto)) found);
    }
