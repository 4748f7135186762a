use Rattle.std.proofs.Common.{◌*◌}
use Rattle.paper.specs.Limits.{most_bays, set_words}
use Rattle.words.proofs.Sets.{mem-zeros}
use Rattle.planner.proofs.Saying.{opens_in, says-shut, says-open}
use Rattle.planner.proofs.plan_lean.Goals as goal

pub open_in-opened-requires : goal.open_in-opened-requires
open_in-opened-requires c = mem-zeros (most_bays * set_words)

pub hand_out_lean-requires : goal.hand_out_lean-requires
hand_out_lean-requires c = opens_in _ c.open_in-opened.ensures c.in-Ok.is

pub returns-in-Err : goal.returns-in-Err
returns-in-Err c = says-shut _ c.open_in-opened.ensures _ c.in-Err.is

pub returns-in-Ok : goal.returns-in-Ok
returns-in-Ok c = says-open _ c.open_in-opened.ensures _ _ _ c.in-Ok.is c.hand_out_lean.ensures
