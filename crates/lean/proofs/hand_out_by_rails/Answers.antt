-- `lean::hand_out_by_rails` meets its contract. What was played is handed out.
use Rattle.std.proofs.Common.{rules}
use Rattle.lean.proofs.hand_out_by_rails.Goals as goal

pub returns : goal.returns
returns c = λ t. c.hand_out_kept.ensures _ _ (c.play_by_rails-played.ensures t)
