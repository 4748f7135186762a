use Rattle.std.proofs.Common.{refl}
use Rattle.chains.proofs.Skipping.{skip-less}
use Rattle.chains.proofs.skip_back.Goals as goal

pub loop-m-preserved : goal.loop-m-preserved
loop-m-preserved c = skip-less c.requires c.loop-m.invariant c.loop-m-test.true refl c.if-gone-u-ne1.false
