use Rattle.std.proofs.Common.{ap, sym, arith}
use Rattle.paper.proofs.Tests.{never-some}
use Rattle.comparing.proofs.Counting.{counting-start, counting-stops, counting-on, counting-none, counting-all}
use Rattle.comparing.proofs.count.Goals as goal

pub loop-number-init : goal.loop-number-init
loop-number-init c = rw c.requires.1 (counting-start c.args.list.now)

pub returns-then-place-ge-CARRIERS : goal.returns-then-place-ge-CARRIERS
returns-then-place-ge-CARRIERS c =
    record {
      answers = counting-stops _ _ _ c.loop-number.invariant (omega arith) _ (ap (λ x. x.carrier) c.unpack.ensures) c.if-place-ge-CARRIERS.true;
      counted = λ e. never-some _ (sym e);
    }

pub overflow_add-counts : goal.overflow_add-counts
overflow_add-counts c = omega (arith, c.loop-number.invariant.low c.unpack.result.carrier.0)

pub loop-number-preserved : goal.loop-number-preserved
loop-number-preserved c =
    counting-on _ _ _ c.loop-number.invariant (omega arith) _ (ap (λ x. x.carrier) c.unpack.ensures) c.if-place-ge-CARRIERS.false

pub returns : goal.returns
returns c =
    record {
      answers = counting-none _ _ _ c.loop-number.invariant (omega arith);
      counted = λ e. counting-all _ _ _ c.loop-number.invariant (omega arith);
    }
