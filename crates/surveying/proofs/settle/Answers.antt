-- `surveying::settle` meets its contract.
use Rattle.std.proofs.Common.{refl, ap}
use Rattle.docket.specs.Reading.{verdict_of}
use Rattle.surveying.proofs.Telling.{settle-bad, settle-yard}
use Rattle.surveying.proofs.settle.Goals as goal

pub returns-in-Err : goal.returns-in-Err
returns-in-Err c =
    record { says = λ file empty sized long reads. settle-bad file c.args.found empty c.args.room.now c.args.rails.now _ _ reads _ c.in-Err.is c.refused.ensures.bays (ap verdict_of c.refused.ensures.verdict) refl }

pub returns-in-Ok : goal.returns-in-Ok
returns-in-Ok c =
    record { says = λ file empty sized long reads. settle-yard file c.args.found empty c.args.room.now c.args.rails.now _ _ reads _ _ c.in-Ok.is sized long c.take_over.ensures }
