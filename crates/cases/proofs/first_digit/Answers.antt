use Rattle.std.proofs.Common.{◌∙◌, sym, arith}
use Rattle.cases.proofs.Numerals.{from-here, from-later, from_end}
use Rattle.cases.proofs.first_digit.Goals as goal

pub returns-then-is_digit : goal.returns-then-is_digit
returns-then-is_digit c =
    (sym (from-here _ _ c.loop-i-test.true (sym c.is_digit.ensures ∙ c.if-is_digit.true)) ∙ c.loop-i.invariant, omega arith)

pub loop-i-preserved : goal.loop-i-preserved
loop-i-preserved c =
    sym (from-later _ _ c.loop-i-test.true (sym c.is_digit.ensures ∙ c.if-is_digit.false)) ∙ c.loop-i.invariant

pub returns : goal.returns
returns c = (sym (from_end _ _ c.loop-i-test.false) ∙ c.loop-i.invariant, omega arith)
