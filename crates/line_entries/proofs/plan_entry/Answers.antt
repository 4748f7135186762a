-- `line_entries::plan_entry` meets its contract.
use Rattle.std.proofs.Common.{◌∙◌}
use Rattle.line_entries.proofs.Pieces.{line-none, line-comment, line-action}
use Rattle.line_entries.proofs.plan_entry.Goals as goal

pub returns-then-line-eq0 : goal.returns-then-line-eq0
returns-then-line-eq0 c = line-none _ c.if-line-eq0.true

pub returns-then-line-eq59 : goal.returns-then-line-eq59
returns-then-line-eq59 c = line-comment _ c.if-line-eq59.true

pub returns : goal.returns
returns c = c.action.ensures ∙ line-action _ c.if-line-eq59.false
