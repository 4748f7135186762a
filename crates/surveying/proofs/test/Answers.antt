-- `surveying::test` meets its contract.
use Rattle.std.proofs.Common.{◌∙◌, ◌*◌}
use Rattle.std.proofs.lemmas.Result.{err_from_is_err_and}
use Rattle.paper.specs.Limits.{most_bays, set_words}
use Rattle.words.proofs.Sets.{mem-zeros}
use Rattle.survey.proofs.Three.{three-are-six}
use Rattle.surveying.proofs.test.Goals as goal

pub open_in-requires : goal.open_in-requires
open_in-requires c = mem-zeros (most_bays * set_words)

pub returns-in_err-open_in : goal.returns-in_err-open_in
returns-in_err-open_in c =
    let p = err_from_is_err_and c.from_residual.result c.from_residual.ensures.1 in
    rw (p.1, p.2) (c.in_err-open_in.ensures.answer ∙ three-are-six c.args.bays c.args.rails.now)

pub returns : goal.returns
returns c =
    c.in_ok-open_in.ensures.answer ∙ three-are-six c.args.bays c.args.rails.now
