use Rattle.link.proofs.Making.{not-none, reading-is}
use Rattle.link.proofs.reading.Goals as goal

pub returns : goal.returns
returns c =
    let k = c.args.k in
    reading-is k (not-none k.version) (not-none k.failed) (not-none k.begun) (not-none k.held) c.counted.ensures
    (not-none k.agrees) (not-none k.well) (not-none k.digits) (not-none k.point) (not-none k.plain) (not-none k.figure)
