use Rattle.std.proofs.Common.{refl, sym, ◌∙◌}
use Rattle.cases.proofs.Numerals.{reading-more, reads_other, reads_end}
use Rattle.cases.proofs.number.Goals as goal

pub returns-then-not-is_digit : goal.returns-then-not-is_digit
returns-then-not-is_digit c =
    reads_other _ _ _ _ c.loop-i.invariant c.loop-i-test.true (sym c.is_digit.ensures ∙ c.if-not-is_digit.true)

pub loop-i-preserved : goal.loop-i-preserved
loop-i-preserved c =
    let digit = sym c.is_digit.ensures ∙ c.if-not-is_digit.false in
    reading-more _ _ _ _ c.loop-i.invariant _ _ c.loop-i-test.true refl digit c.with_digit-value.ensures

pub returns : goal.returns
returns c = reads_end _ _ _ _ c.loop-i.invariant c.loop-i-test.false
