use Rattle.setting_out.specs.SetOut.{SetOut}
use Rattle.setting_out.proofs.set_out.Given as goal

abbrev pub invariant-loop-name : goal.invariant-loop-name
invariant-loop-name l = SetOut l.plan l.todo l.name
