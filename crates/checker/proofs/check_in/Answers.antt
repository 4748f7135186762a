use Rattle.std.proofs.Common.{arith}
use Rattle.std.proofs.lemmas.Result.{err_from_is_err_and}
use Rattle.paper.specs.Order.{order}
use Rattle.checker.specs.Reading.{checked_of}
use Rattle.checker.proofs.Six.{six-refused, few_bays, as_many, few-carriers, starts-in-yard, starts_inside, goals_inside, six-passed}
use Rattle.checker.proofs.check_in.Goals as goal

pub check_from-requires : goal.check_from-requires
check_from-requires c =
    let o = order c.args.bays c.args.rails.now c.args.start.now c.args.goal.now in
    let plan = c.args.plan.now in
    let past = c.in_ok-first_six.ensures.answer in
    let enough = c.requires.2 (few_bays o plan past) in (
      record {
        as_many = as_many o plan past;
        few = few-carriers o plan past;
        starts_inside = starts_inside o plan past;
        goals_inside = goals_inside o plan past;
      },
      record {
        few = c.requires.0;
        long = omega (arith, c.requires.1);
        inside = λ k h. omega (arith, starts-in-yard o plan past k h, enough);
      },
    )

pub returns-in_err-first_six : goal.returns-in_err-first_six
returns-in_err-first_six c =
    let p = err_from_is_err_and c.from_residual.result c.from_residual.ensures.1 in
    rw (p.1, p.2) (six-refused (order c.args.bays c.args.rails.now c.args.start.now c.args.goal.now) c.args.plan.now _ c.in_err-first_six.ensures.answer)

pub returns : goal.returns
returns c =
    let o = order c.args.bays c.args.rails.now c.args.start.now c.args.goal.now in
    let plan = c.args.plan.now in
    let past = c.in_ok-first_six.ensures.answer in
    six-passed o plan past c.args.rows _ (c.first_six.ensures.admitted _ c.in_ok-first_six.was).rows (c.requires.2 (few_bays o plan past))
    (checked_of c.check_from.result) c.check_from.ensures
