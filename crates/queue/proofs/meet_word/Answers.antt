use Rattle.std.proofs.Common.{arith}
use Rattle.queue.proofs.Words.{word-new, word-met-none, word-met}
use Rattle.queue.proofs.meet_word.Goals as goal

pub returns-then-word-eq0 : goal.returns-then-word-eq0
returns-then-word-eq0 c = word-met-none _ _ _ _ (c.type_inv.seen _).fits c.if-word-eq0.true _ _ _

pub enqueue-requires : goal.enqueue-requires
enqueue-requires c =
    let p = c.requires in
    let a = c.args in
    record {
      word_there = p.word_there;
      before_size = p.asks.before_size;
      room = rw (word-new a.table.now a.seen.now a.a a.i (omega arith)) p.asks.room;
    }

pub returns : goal.returns
returns c = word-met _ _ _ _ (omega arith) _ _ _ _ _ _ (omega arith) c.enqueue.ensures
