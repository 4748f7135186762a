-- `survey_files::read` meets its contract.
use Rattle.std.proofs.Common.{rules}
use Rattle.survey_files.proofs.read.Goals as goal

pub returns : goal.returns
returns c =
    c.settle.ensures.says c.args.file.now _ (search rules) (search rules) c.read-found.ensures
