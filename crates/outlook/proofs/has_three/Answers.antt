-- `outlook::has_three` meets its contract. The lowest is found and taken out, twice; then none is left, or a third is.
use Rattle.std.proofs.Common.{sym, ◌∙◌, rules}
use Rattle.outlook.proofs.Looking.{none_found, one_found, two-found}
use Rattle.outlook.proofs.has_three.Goals as goal

pub returns-then-x-ge-SPAN : goal.returns-then-x-ge-SPAN
returns-then-x-ge-SPAN c = record { few = λ e. none_found _ _ _ _ c.join_row.ensures _ c.lowest_common-x.ensures c.if-x-ge-SPAN.true }

pub returns-then-y-ge-SPAN : goal.returns-then-y-ge-SPAN
returns-then-y-ge-SPAN c =
    let join-row = c.join_row in
    record { few = λ e. one_found _ _ _ _ join-row.ensures _ _ c.remove.ensures _ c.lowest_common-y.ensures c.if-y-ge-SPAN.true }

pub returns : goal.returns
returns c =
    let remove = c.remove in
    let join-row = c.join_row in
    record { few = λ e. two-found _ _ _ _ join-row.ensures _ _ remove.ensures _ _ c.remove-2.ensures (sym c.meets.ensures ∙ e) }
