-- `sejjekoru::sejjekoru_plan` meets its contract. The answer is the paper's, so what is told of the one is told of the other.
use Rattle.std.proofs.Common.{◌∙◌, rules}
use Rattle.plan_numbers.specs.Planned.{plan_number, plan_value}
use Rattle.sejjekoru.proofs.Saying.{told-as}
use Rattle.sejjekoru.proofs.sejjekoru_plan.Goals as goal

pub returns : goal.returns
returns c =
    let says = c.plan_counted-answer.ensures in
    let told = c.told_planned.ensures in
    record { tells = told-as plan_number plan_value says.says.answers told.0; parks = told.1 ∙ says.parks; leaves = says.says.leaves }
