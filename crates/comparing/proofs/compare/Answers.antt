-- Each thing that is told or handed back is told of the one answer.
use Rattle.std.proofs.Common.{◌∙◌, ap}
use Rattle.comparing.specs.Comparing.{part_by, longer_by, number_by, value_by}
use Rattle.comparing.proofs.Handing.{begins}
use Rattle.comparing.proofs.compare.Goals as goal

pub rest-requires : goal.rest-requires
rest-requires c = begins _ _ _ _ c.differ-answer.ensures.answers

pub returns : goal.returns
returns c =
    let says = c.differ-answer.ensures in
    record {
      numbered = c.number_of.ensures ∙ ap number_by says.answers;
      valued = c.value_of.ensures ∙ ap value_by says.answers;
      which = c.longer_of.ensures ∙ ap (longer_by c.args.first.now c.args.second.now) says.answers;
      hands_back = c.rest.ensures ∙ ap (part_by c.args.first.now c.args.second.now) says.answers;
      leaves = says.leaves;
    }
