use Rattle.std.proofs.Common.{refl, sym, ◌∙◌}
use Rattle.sides.specs.Letters.{letter}
use Rattle.sides.proofs.Rows.{all-on, all-not, all_none}
use Rattle.sides.proofs.all_letters.Goals as goal

pub loop-b-init : goal.loop-b-init
loop-b-init c = refl

pub returns-then-not-is_letter : goal.returns-then-not-is_letter
returns-then-not-is_letter c =
    all-not letter c.args.text.now c.loop-b.b-index c.loop-b-test.true (sym c.is_letter.ensures ∙ c.if-not-is_letter.true) ∙ c.loop-b.invariant

pub loop-b-preserved : goal.loop-b-preserved
loop-b-preserved c =
    sym (all-on letter c.args.text.now c.loop-b.b-index c.loop-b-test.true (sym c.is_letter.ensures ∙ c.if-not-is_letter.false)) ∙ c.loop-b.invariant

pub returns : goal.returns
returns c = all_none letter c.args.text.now c.loop-b.b-index c.loop-b-test.false ∙ c.loop-b.invariant
