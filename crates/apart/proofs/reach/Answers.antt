use Rattle.std.proofs.Common.{arith}
use Rattle.words.specs.Sets.{words}
use Rattle.words.proofs.Sets.{mem-zeros}
use Rattle.apart.proofs.Reaching.{seeing-first, seeing-more, seen-dry, seen_all, low_first, low-more}
use Rattle.apart.proofs.reach.Goals as goal

pub loop-init : goal.loop-init
loop-init c = record {
  long = omega arith;
  seeing = λ Y t. seeing-first Y _ _ c.requires.0 c.requires.1 t _ _ _ _ c.clear.ensures c.add.ensures (mem-zeros words) c.add-2.ensures;
  low = low_first _ _ _ c.requires.0 (mem-zeros words) c.add-2.ensures;
}

pub returns-then-next_from-eq-SPAN : goal.returns-then-next_from-eq-SPAN
returns-then-next_from-eq-SPAN c =
    let l = c.loop in
    record { same = λ Y t. seen-dry Y _ _ c.requires.0 c.requires.1 t l.counter _ _ (l.invariant.seeing Y t) _ c.next_from.ensures c.if-next_from-eq-SPAN.true }

pub loop-preserved : goal.loop-preserved
loop-preserved c =
    let l = c.loop in record {
      long = omega arith;
      seeing = λ Y t. seeing-more Y _ _ c.requires.0 c.requires.1 t l.counter _ _ _ _ _ (l.invariant.seeing Y t) c.beside.ensures c.settle.ensures;
      low = low-more _ _ _ _ _ _ _ c.requires.2 l.invariant.low c.beside.ensures c.settle.ensures;
    }

pub returns : goal.returns
returns c = record { same = λ Y t. seen_all Y _ _ c.requires.0 c.requires.1 t c.loop.counter _ _ (c.loop.invariant.seeing Y t) (omega arith) }
