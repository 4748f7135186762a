-- `program::answer_for` meets its contract: 14 and 15 are answered as they are, and an order's lists hold all of it.
use Rattle.std.proofs.Common.{sym, ap, arith, rules}
use Rattle.print_room.specs.Short.{short_or}
use Rattle.program.proofs.Ordering.{order-stands, refusal-stands}
use Rattle.program.proofs.Readying.{refused-or-ready}
use Rattle.program.proofs.answer_for.Goals as goal

pub plan_order-requires : goal.plan_order-requires
plan_order-requires c =
    let read-order = c.read_order-ordered in
    let s = order-stands read-order.ensures _ c.in-Ok.is (omega arith) (omega arith) (omega arith) in (s.rails, s.starting, s.ending, c.requires)

pub returns-in-Ok : goal.returns-in-Ok
returns-in-Ok c =
    let read-order = c.read_order-ordered in
    let s = order-stands read-order.ensures _ c.in-Ok.is (omega arith) (omega arith) (omega arith) in rw (ap (short_or c.args.shorten) (sym s.answers)) c.plan_order.ensures

pub returns-in-Err : goal.returns-in-Err
returns-in-Err c =
    rw (ap (short_or c.args.shorten) (sym (refusal-stands c.read_order-ordered.ensures _ c.in-Err.is))) (refused-or-ready c.args.shorten _ _ c.requires)
