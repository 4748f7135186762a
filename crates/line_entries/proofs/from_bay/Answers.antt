-- `line_entries::from_bay` meets its contract.
use Rattle.std.proofs.Common.{take, ◌≤◌, length-take-le, arith, sym, ◌∙◌}
use Rattle.paper.specs.Print.{number_after}
use Rattle.line_entries.proofs.Pieces.{from-no, from-yes, from-short}
use Rattle.line_entries.proofs.Numbers.{capped-low}
use Rattle.line_entries.proofs.from_bay.Goals as goal

pub slice_bounds-number_after-end : goal.slice_bounds-number_after-end
slice_bounds-number_after-end c = sym (length-take-le _ _ c.cut-end.ensures.within)

pub returns-in_default : goal.returns-in_default
returns-in_default c = from-no _ _ c.cut-end.ensures _ c.if-end-text.true (sym c.in_default.is ∙ c.number_after.ensures)

pub overflow_cast-from : goal.overflow_cast-from
overflow_cast-from c =
    let h : c.in-Some.from ≤ 65535 = capped-low 65535 _ (number_after 98 (take c.cut-end.result c.args.text.now)) (sym c.in-Some.is ∙ c.number_after.ensures) in omega arith

pub returns-then-end-text : goal.returns-then-end-text
returns-then-end-text c =
    let cut = c.cut-end in
    c.to_bay.ensures ∙ from-yes _ _ cut.ensures _ c.if-end-text.true c.in-Some.from (sym c.in-Some.is ∙ c.number_after.ensures)

pub returns : goal.returns
returns c = from-short _ _ c.cut-end.ensures _ c.if-end-text.false
