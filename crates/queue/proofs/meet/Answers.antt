use Rattle.std.proofs.Common.{◌≡◌, length, arith}
use Rattle.queue.proofs.Words.{meeting-none, meeting-room, meeting-more}
use Rattle.queue.proofs.meet.Goals as goal

pub loop-i-init : goal.loop-i-init
loop-i-init c = meeting-none _ _ _ _ _ _

pub meet_word-c-requires : goal.meet_word-c-requires
meet_word-c-requires c =
    let p = c.requires in
    let l = c.loop-i in
    let same : length l.met ≡ length c.args.met.now = omega arith in
    record {
      word_there = omega arith;
      asks = record { row = p.row; seen_size = omega arith; before_size = omega arith; room = rw same (meeting-room _ _ l.invariant (omega arith) p.room) };
    }

pub loop-i-preserved : goal.loop-i-preserved
loop-i-preserved c = meeting-more _ _ c.loop-i.invariant (omega arith) c.meet_word-c.ensures
