-- `line_entries::action` meets its contract.
use Rattle.std.proofs.Common.{length-take-le, sym, ◌∙◌}
use Rattle.line_entries.proofs.Pieces.{action-yes, action-no}
use Rattle.line_entries.proofs.action.Goals as goal

pub slice_bounds-words-end : goal.slice_bounds-words-end
slice_bounds-words-end c = sym (length-take-le _ _ c.cut-end.ensures.within)

pub returns-then-end-line : goal.returns-then-end-line
returns-then-end-line c = c.words.ensures ∙ action-yes _ _ c.cut-end.ensures c.if-end-line.true

pub returns : goal.returns
returns c = action-no _ _ c.cut-end.ensures c.if-end-line.false
