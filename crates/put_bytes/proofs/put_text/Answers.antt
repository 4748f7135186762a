use Rattle.std.proofs.Common.{arith}
use Rattle.stores.proofs.Stores.{wrote-next}
use Rattle.put_bytes.proofs.put_text.Goals as goal

pub loop-i-preserved : goal.loop-i-preserved
loop-i-preserved c =
    wrote-next c.args.text.now c.loop-i.i (omega arith) c.loop-i.invariant c.store.ensures (omega arith)
