-- `scout::clears` meets its contract.
use Rattle.std.proofs.Common.{◌≡◌, arith, rules, None}
use Rattle.paper.proofs.Tests.{never}
use Rattle.scout.proofs.clears.Goals as goal

pub clear_two-cleared-requires : goal.clear_two-cleared-requires
clear_two-cleared-requires c =
    let p = c.requires.ready in
    let z = c.requires.clears_asks in
    record {
      ready = p;
      clear_two_asks = record {
        coupled = record { leads = z.leads; follows = z.follows; differ = z.differ };
        junction = z.inside;
        behind = p.placed.inside c.args.lead.couple.follower.0 z.follows;
      };
    }

pub returns-in_default : goal.returns-in_default
returns-in_default c =
    let clear-two = c.clear_two-cleared in
    let told : clear-two.result ≡ None = c.in_default.is in
    λ z t sound at. (clear-two.ensures.clears t sound at).missing told

pub returns : goal.returns
returns c = λ z. never (cc)
