use Rattle.std.proofs.Common.{append-nil, take_all, arith}
use Rattle.edges.proofs.Storing.{came-piece}
use Rattle.edges.proofs.feed.Goals as goal

pub loop-b-init : goal.loop-b-init
loop-b-init c = λ t before small came. rw (append-nil t) came

pub loop-b-preserved : goal.loop-b-preserved
loop-b-preserved c =
    let loop = c.loop-b in
    came-piece c.args.piece.now loop.b-index (omega arith) loop.now _ _ _ _ _ loop.invariant c.step-next.ensures c.keep.ensures

pub returns : goal.returns
returns c = record {
  sized = omega arith;
  feeds = λ t before small came. rw (take_all c.loop-b.b-index c.args.piece.now (omega arith)) at (c.loop-b.invariant t before small came);
}
