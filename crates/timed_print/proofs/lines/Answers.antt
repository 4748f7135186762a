use Rattle.std.proofs.Common.{◌<◌, length, arith}
use Rattle.stores.proofs.Stores.{wrote_none, wrote_then}
use Rattle.timed_print.proofs.Parts.{lines_none, lines_more, lines-short}
use Rattle.timed_print.proofs.lines.Goals as goal

pub loop-i-init : goal.loop-i-init
loop-i-init c =
    let none = lines_none c.args.slots.now c.args.plan.now in
    record { wrote = rw none (wrote_none _ _); short = rw none (omega arith) }

pub loop-i-preserved : goal.loop-i-preserved
loop-i-preserved c =
    let s = c.args in
    let t = c.loop-i in
    let more : t.i < length s.plan.now = omega arith in
    let there : t.i < length s.slots.now = omega arith in
    record {
      wrote = rw (lines_more s.slots.now s.plan.now t.i more there, ← c.unpack.ensures) (wrote_then t.invariant.wrote c.line-at.ensures);
      short = lines-short s.slots.now s.plan.now t.i more there (omega (arith, c.type_inv.plan t.i)) (omega (arith, c.type_inv.slots t.i)) t.invariant.short;
    }
