-- `line_entries::carrier` meets its contract.
use Rattle.std.proofs.Common.{length-take-le, sym, ◌∙◌}
use Rattle.line_entries.proofs.Pieces.{carrier-no, carrier-yes, carrier-short}
use Rattle.line_entries.proofs.carrier.Goals as goal

pub slice_bounds-number_after-end : goal.slice_bounds-number_after-end
slice_bounds-number_after-end c = sym (length-take-le _ _ c.cut-end.ensures.within)

pub returns-in_default : goal.returns-in_default
returns-in_default c = carrier-no _ _ c.cut-end.ensures c.if-end-text.true (sym c.in_default.is ∙ c.number_after.ensures)

pub returns-then-end-text : goal.returns-then-end-text
returns-then-end-text c =
    let cut = c.cut-end in
    c.from_bay.ensures ∙ carrier-yes _ _ cut.ensures c.if-end-text.true c.in-Some.carrier (sym c.in-Some.is ∙ c.number_after.ensures)

pub returns : goal.returns
returns c = carrier-short _ _ c.cut-end.ensures c.if-end-text.false
