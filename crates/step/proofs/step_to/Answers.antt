-- `step::step_to` meets its contract. Vacating an empty bay moves nothing, so the step is the crossing alone; a finished carrier's bay is held, so the
-- step is the swap; else the contract is that of making way.
use Rattle.std.proofs.Common.{arith, sym, ◌∙◌, rules}
use Rattle.paper.proofs.Playing.{bay-in}
use Rattle.paper.proofs.Tests.{and_left}
use Rattle.choice.proofs.Taking.{table-rowed}
use Rattle.step.proofs.Stepping.{free, stepped-free, held-fails, met-carrier, met-other, met-beside, stepped-swap}
use Rattle.step.proofs.step_to.Goals as goal

pub cross-requires : goal.cross-requires
cross-requires c =
    let p = c.requires.ready in
    let z = c.requires.step_asks in
    let h = sym c.if-is_in.true ∙ c.is_in.ensures in
    record {
      from_inside = p.placed.inside c.args.next.carrier.0 z.can.carrier_there;
      to_inside = z.can.bay_there;
      most = p.most;
      empty_size = p.empty_size;
      counts = omega arith;
      full = bay-in c.args.placement.now c.args.next.carrier.0 z.can.carrier_there;
      free = free p.tabled p.most z.can p.placed h;
      placed = p.placed;
    }

pub returns-then-is_in : goal.returns-then-is_in
returns-then-is_in c =
    let cross = c.cross in
    let if1 = c.if-is_in in
    let is-in = c.is_in in
    let p = c.requires.ready in
    let z = c.requires.step_asks in
    let h = sym if1.true ∙ is-in.ensures in
    let crossed = cross.ensures in
    record { few = omega (arith, crossed.counted); proceeds = λ t. stepped-free t p.most z.can p.placed h crossed }

pub overflow_cast-there : goal.overflow_cast-there
overflow_cast-there c =
    omega (arith, c.slice_known-5-1.given c.args.next.to.0)

pub swap-requires : goal.swap-requires
swap-requires c =
    let p = c.requires.ready in
    let z = c.requires.step_asks in
    let f = held-fails p.tabled p.most z.can p.placed (omega (arith, c.if-there-next.true)) in
    record {
      ready = p;
      seek_asks = record {
        first = z.can.carrier_there;
        second = (met-carrier p.tabled p.most z.can p.placed f).0;
        differ = met-other p.tabled p.most z.can p.placed f;
        side = record { tabled = p.tabled; beside = met-beside p.tabled p.most z.can p.placed f };
      };
    }

pub returns-then-there-next : goal.returns-then-there-next
returns-then-there-next c =
    let swap = c.swap in
    let if2 = c.if-there-next in
    let p = c.requires.ready in
    let z = c.requires.step_asks in
    record {
      few = swap.ensures.few;
      proceeds = λ t.
          let f = held-fails t p.most z.can p.placed (omega (arith, if2.true)) in
          stepped-swap t p.most z.can p.placed f (swap.ensures.proceeds t (met-beside t p.most z.can p.placed f));
    }

pub common-beside-requires : goal.common-beside-requires
common-beside-requires c =
    let p = c.requires.ready in
    let z = c.requires.step_asks in
    (omega (arith, p.table_size, z.can.bay_there), omega (arith, p.empty_size), λ b h i. table-rowed p.tabled.joins p.most _ z.can.bay_there p.table_size b h (and_left _ _ i))

pub step_aside-requires : goal.step_aside-requires
step_aside-requires c =
    let if1 = c.if-is_in in
    let is-in = c.is_in in
    let p = c.requires.ready in
    let z = c.requires.step_asks in
    let empty-beside = c.common-beside.ensures in
    record { ready = p; aside_asks = record { can = z.can; unfinished = omega (arith, c.if-there-next.false); full = sym is-in.ensures ∙ if1.false; chosen = empty-beside; found = c.if-beside-lt-SPAN.true } }

pub returns-then-beside-lt-SPAN : goal.returns-then-beside-lt-SPAN
returns-then-beside-lt-SPAN c = c.step_aside.ensures

pub make_way-requires : goal.make_way-requires
make_way-requires c = record { ready = c.requires.ready; step_asks = c.requires.step_asks }

pub returns : goal.returns
returns c = c.make_way.ensures
