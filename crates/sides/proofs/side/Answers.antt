-- one digit, two, or another length.
use Rattle.std.proofs.Common.{if◌then◌else◌, ◌∙◌, ap, leb, rules}
use Rattle.sides.specs.Letters.{side_of}
use Rattle.sides.proofs.Numbers.{side-one, side-two, side-other}
use Rattle.sides.proofs.side.Goals as goal

pub returns-then-text-eq1 : goal.returns-then-text-eq1
returns-then-text-eq1 c = ap side_of (c.within.ensures ∙ ap (λ d. if leb d 64 then d else 0) c.digit.ensures.0) ∙ side-one c.args.text.now (search rules)

pub returns-then-text-eq2 : goal.returns-then-text-eq2
returns-then-text-eq2 c =
    ap side_of (c.within-then-text-eq2.ensures ∙ rw (c.digit-ones.ensures.0, c.digit-tens.ensures.0)) ∙ side-two c.args.text.now (search rules)

pub returns : goal.returns
returns c = side-other c.args.text.now c.if-text-eq1.false c.if-text-eq2.false
