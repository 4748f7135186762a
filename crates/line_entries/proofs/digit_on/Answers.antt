-- `line_entries::digit_on` meets its contract.
use Rattle.line_entries.proofs.Numbers.{digit-yes, digit-no, digit-over, is-low, is-high, is-digit}
use Rattle.line_entries.proofs.digit_on.Goals as goal

pub returns-then-b-lt48 : goal.returns-then-b-lt48
returns-then-b-lt48 c = digit-no _ _ _ (is-low _ c.if-b-lt48.true)

pub returns-then-b-gt57 : goal.returns-then-b-gt57
returns-then-b-gt57 c = digit-no _ _ _ (is-high _ c.if-b-gt57.true)

pub returns-then-next-most : goal.returns-then-next-most
returns-then-next-most c = digit-yes _ _ _ (is-digit _ c.if-b-lt48.false c.if-b-gt57.false) c.if-next-most.true

pub returns : goal.returns
returns c = digit-over _ _ _ c.if-next-most.false
