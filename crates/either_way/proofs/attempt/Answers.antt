-- The copies are the placement.
use Rattle.std.proofs.Common.{true, false, arith, rules}
use Rattle.moving.specs.Bounds.{clear_once_most, attempt_most}
use Rattle.acting.specs.Acting.{nothing}
use Rattle.attempts.specs.Asking.{way_with}
use Rattle.attempts.proofs.Attempting.{ready-copy}
use Rattle.either_way.proofs.Either.{kept-copy, attempted, within_more}
use Rattle.either_way.proofs.attempt.Goals as goal

pub go_round-requires : goal.go_round-requires
go_round-requires c =
    let z = c.requires.attempt_asks in
    let e = c.copy.ensures in
    let d = c.copy-2.ensures in
    record {
      ready = ready-copy c.requires.ready _ _ _ e d (search rules) c.keep.ensures.row;
      attempt_asks = record { around = kept-copy _ _ e d z.around; inside = rw d z.inside };
    }

pub vacate_both-requires : goal.vacate_both-requires
vacate_both-requires c =
    let z = c.requires.attempt_asks in
    let e = c.copy.ensures in
    let d = c.copy-2.ensures in
    record {
      ready = ready-copy c.requires.ready _ _ _ e d (search rules) c.keep.ensures.row;
      aside_asks = record { junction = rw d z.around.junction; held = rw d z.around.behind; emptied = rw d z.around.kept; inside = rw d z.inside };
    }

pub returns-in-First : goal.returns-in-First
returns-in-First c =
    let vacated = c.vacate_both in
    let a = c.args in
    rw c.in-First.is (record {
      few = within_more vacated.result nothing clear_once_most attempt_most (omega arith) vacated.ensures.few;
      attempts = λ t j. attempted {o = way_with false t.yard a.one a.x.0 a.placement.now} (rw (c.copy.ensures, c.copy-2.ensures) at vacated.ensures.tries t);
    })

pub returns-in-Second : goal.returns-in-Second
returns-in-Second c =
    let round = c.go_round in
    let a = c.args in
    rw c.in-Second.is (record {
      few = round.ensures.few;
      attempts = λ t j. attempted {o = way_with true t.yard a.one a.x.0 a.placement.now} (rw (c.copy.ensures, c.copy-2.ensures) at round.ensures.tries t j);
    })
