-- `line_entries::to_bay` meets its contract.
use Rattle.std.proofs.Common.{◌≤◌, arith, sym, ◌∙◌, ap}
use Rattle.paper.specs.Print.{number_after}
use Rattle.line_entries.proofs.Pieces.{to-more, to-no, to-yes}
use Rattle.line_entries.proofs.Numbers.{capped-low}
use Rattle.line_entries.specs.declared.Entry.TheVariants.{Number}
use Rattle.line_entries.proofs.to_bay.Goals as goal

pub returns-then-cut-text : goal.returns-then-cut-text
returns-then-cut-text c = to-more _ _ c.cut.ensures _ _ c.if-cut-text.true

pub returns-in_default : goal.returns-in_default
returns-in_default c = to-no _ _ c.cut.ensures _ _ c.if-cut-text.false (sym c.in_default.is ∙ c.number_after.ensures)

pub overflow_cast-to : goal.overflow_cast-to
overflow_cast-to c = let h : c.in-Some.to ≤ 65535 = capped-low 65535 _ (number_after 98 c.args.text.now) (sym c.in-Some.is ∙ c.number_after.ensures) in omega arith

pub returns : goal.returns
returns c = ap Number c.pack.ensures ∙ to-yes _ _ c.cut.ensures _ _ c.if-cut-text.false c.in-Some.to (sym c.in-Some.is ∙ c.number_after.ensures)
