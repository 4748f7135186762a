-- `link_calls::piece` meets its contract.
use Rattle.std.proofs.Common.{rules}
use Rattle.link.proofs.Calling.{piece-more, piece-long, piece-ended}
use Rattle.link_calls.proofs.piece.Goals as goal

pub returns-then-bytes-le-PIECE : goal.returns-then-bytes-le-PIECE
returns-then-bytes-le-PIECE c =
    piece-more c.args.link c.args.bytes.now c.if-link-eq1.true c.if-bytes-le-PIECE.true _ c.fed.ensures

pub returns-then-link-eq1 : goal.returns-then-link-eq1
returns-then-link-eq1 c =
    piece-long c.args.link c.args.bytes.now c.if-link-eq1.true c.if-bytes-le-PIECE.false

pub returns : goal.returns
returns c =
    piece-ended c.args.link c.args.bytes.now c.if-link-eq1.false
