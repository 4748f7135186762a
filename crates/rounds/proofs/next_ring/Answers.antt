-- `rounds::next_ring` meets its contract. The queue's pass says what is met, and the ring is what is seen now and was not before.
use Rattle.std.proofs.Common.{rules}
use Rattle.rounds.proofs.Rounds.{ring-left}
use Rattle.rounds.proofs.next_ring.Goals as goal

pub returns : goal.returns
returns c =
    let keep = c.keep in
    record { passed = c.pass-end.ensures.passes; ringed = ring-left _ _ _ _ _ _ _ keep.ensures c.keep-2.ensures c.minus.ensures }
