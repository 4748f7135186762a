use Rattle.std.proofs.Common.{◌≡◌, suc, ◌+◌, ◌*◌, get_or, arith}
use Rattle.chains.specs.Links.{links_each, own, sought}
use Rattle.chains.proofs.next_entering.Goals as goal

pub returns : goal.returns
unfolding own sought
returns c =
    let lead = c.requires.linked.ahead 0 c.args.name (omega arith) c.requires.inside in
    let next : get_or c.args.links.now (c.args.name * links_each + 0) 0 + 1 ≡ suc (get_or c.args.links.now (c.args.name * links_each + 0) 0) = omega arith in
    record { after = omega (arith, lead.up); upto = omega (arith, lead.inside); met = rw next lead.met }
