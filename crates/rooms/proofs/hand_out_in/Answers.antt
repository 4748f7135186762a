-- `rooms::hand_out_in` meets its contract. What was played is handed out.
use Rattle.std.proofs.Common.{rules}
use Rattle.rooms.proofs.hand_out_in.Goals as goal

pub returns : goal.returns
returns c = λ t. c.hand_out_kept.ensures _ _ (c.play-played.ensures t)
