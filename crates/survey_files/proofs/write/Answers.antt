-- `survey_files::write` meets its contract.
use Rattle.std.proofs.Common.{refl, sym, arith}
use Rattle.std.proofs.lemmas.Result.{err_from_is_err_and}
use Rattle.survey.proofs.Written.{passes}
use Rattle.surveying.proofs.Telling.{write-refused, write-room, write-all}
use Rattle.survey_files.proofs.write.Goals as goal

pub returns-in_err-test : goal.returns-in_err-test
returns-in_err-test c =
    let p = err_from_is_err_and c.from_residual.result c.from_residual.ensures.1 in
    rw (p.1, p.2) (write-refused c.args.bays c.args.rails.now c.args.out.now _ _ c.in_err-test.ensures refl)

pub write-needed-requires : goal.write-needed-requires
write-needed-requires c =
    omega (arith, (passes c.args.bays c.args.rails.now (sym c.in_ok-test.ensures)).few-ends)

pub returns-then-out-needed : goal.returns-then-out-needed
returns-then-out-needed c =
    write-room c.args.bays c.args.rails.now c.args.out.now _ c.in_ok-test.ensures _ c.write-needed.ensures.wrote.counted c.if-out-needed.true refl

pub write-written-requires : goal.write-written-requires
write-written-requires c =
    omega (arith, (passes c.args.bays c.args.rails.now (sym c.in_ok-test.ensures)).few-ends)

pub returns : goal.returns
returns c =
    let write = c.write-needed in
    write-all c.args.bays c.args.rails.now c.args.out.now _ c.in_ok-test.ensures _ _ _ write.ensures.wrote.counted write.ensures.short c.if-out-needed.false c.write-written.ensures.wrote refl
