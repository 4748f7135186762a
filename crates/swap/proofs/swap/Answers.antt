-- `swap::swap` meets its contract. With two bays to spare beside r the swap is the exchange there, and else it is sought.
use Rattle.std.proofs.Common.{refl, arith, rules}
use Rattle.exchange.proofs.Exchanging.{length-exchange}
use Rattle.swap.proofs.Committing.{noted-logged, traded-proceeds}
use Rattle.swap.proofs.Besides.{swap-own}
use Rattle.swap.proofs.swap.Goals as goal

pub spare_bays-spare-requires : goal.spare_bays-spare-requires
spare_bays-spare-requires c =
    let p = c.requires.ready in
    let z = c.requires.seek_asks in
    let hr = p.placed.inside _ z.first in
    let hs = p.placed.inside _ z.second in
    record { row = omega (arith, hr, p.table_size); low = omega (arith, hs, p.most); empty_size = p.empty_size }

pub swap_beside-crossings-requires : goal.swap_beside-crossings-requires
swap_beside-crossings-requires c =
    let p = c.requires.ready in
    let z = c.requires.seek_asks in
    record {
      first = z.first;
      second = z.second;
      few = omega (arith, p.placed.few, p.most);
      first_shown = p.placed.inside _ z.first;
      second_shown = p.placed.inside _ z.second;
    }

pub returns-in-Some : goal.returns-in-Some
returns-in-Some c =
    let spare-bays = c.spare_bays-spare in
    let p = c.requires.ready in
    let z = c.requires.seek_asks in
    let two = spare-bays.ensures.both c.in-Some.x c.in-Some.y c.in-Some.is in
    let swap-beside = c.swap_beside-crossings in
    let w = swap-beside.ensures in
    let few = rw length-exchange at w.noted.counted in
    let long = swap-beside.auto.out in
    record {
      few = omega (arith, few);
      proceeds = λ t b. traded-proceeds t p.placed refl _ _ z.first z.second z.differ b _ _ (swap-own t p.placed p.most z.first z.second b two) w.traded.moved w.traded.stands long (noted-logged w.noted);
    }

pub returns : goal.returns
returns c = c.swap_far.ensures
