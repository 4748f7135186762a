use Rattle.std.proofs.Common.{refl}
use Rattle.chains.proofs.Linking.{tag_place}
use Rattle.chains.proofs.Skipping.{skip-more}
use Rattle.chains.proofs.skip.Goals as goal

pub loop-m-preserved : goal.loop-m-preserved
loop-m-preserved c = rw (tag_place c.args.link) (skip-more c.requires c.loop-m-test.true refl c.if-gone-m-ne1.false c.loop-m.invariant)
