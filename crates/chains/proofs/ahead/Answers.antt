use Rattle.std.proofs.Common.{◌-◌, ◌<◌, refl, arith}
use Rattle.chains.specs.Links.{place_of}
use Rattle.chains.proofs.Linking.{tag_place, met-on, leads-found, linked-ahead}
use Rattle.chains.proofs.ahead.Goals as goal

pub returns : goal.returns
returns c =
    let plan = c.args.plan.now in
    let gone = c.args.gone.now in
    let name = c.args.name in
    let kind = place_of c.args.link in
    let r = c.skip-r.result in
    let at = tag_place c.args.link in
    let search = c.requires.search in
    let says = c.skip-r.ensures in
    let lead = search.linked.ahead kind name c.requires.kind_up search.inside in
    let found = met-on plan gone name _ _ r kind (place_of c.args.again) (rw at (omega arith)) c.requires.seeks lead says.met in
    let after : name < r = omega (arith, lead.up, rw at at says.from) in
    record {
      after = after;
      upto = says.upto;
      met = found;
      linked = rw at (linked-ahead plan gone c.args.links.now search.linked name kind (r - 1) search.inside c.requires.kind_up
          (leads-found plan gone kind name r (r - 1) refl after says.upto found));
    }
