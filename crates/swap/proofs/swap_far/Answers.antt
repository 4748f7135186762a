-- `swap::swap_far` meets its contract. The trial that was sought is the paper's swap, and it is in the list.
use Rattle.std.proofs.Common.{◌≡◌, refl, arith, rules, None, Some}
use Rattle.swap.proofs.Committing.{committed, not_found}
use Rattle.swap.proofs.swap_far.Goals as goal

pub seek-requires : goal.seek-requires
seek-requires c = c.requires

pub returns-in_err-done : goal.returns-in_err-done
returns-in_err-done c =
    let seek = c.seek in
    let p = c.requires.ready in
    let z = c.requires.seek_asks in
    let e : seek.result ≡ None = c.in_err-done.was in
    rw c.from_residual.ensures (record { few = tt; proceeds = λ t b. not_found t p.placed refl _ _ z.first z.second z.differ b (rw e at (seek.ensures.swaps t b)) })

pub trade-requires : goal.trade-requires
trade-requires c =
    let p = c.requires.ready in
    let z = c.requires.seek_asks in
    record {
      first = z.first;
      second = z.second;
      few = omega (arith, p.placed.few, p.most);
      first_shown = p.placed.inside _ z.first;
      second_shown = p.placed.inside _ z.second;
    }

pub returns : goal.returns
returns c =
    let trade = c.trade in
    let seek = c.seek in
    let p = c.requires.ready in
    let z = c.requires.seek_asks in
    let e : seek.result ≡ Some c.in_ok-done.done = c.in_ok-done.was in
    let long = seek.auto.out in
    record {
      few = rw e at seek.ensures.few;
      proceeds = λ t b. committed t p.placed refl _ _ z.first z.second z.differ b _ _ trade.ensures.moved trade.ensures.stands long (rw e at (seek.ensures.swaps t b));
    }
