-- `line_entries::number_after` meets its contract.
use Rattle.std.proofs.Common.{◌∙◌}
use Rattle.line_entries.proofs.Numbers.{after_none, after-letter, after-other}
use Rattle.line_entries.proofs.number_after.Goals as goal

pub returns-then-word-eq0 : goal.returns-then-word-eq0
returns-then-word-eq0 c = after_none _ _ _ c.if-word-eq0.true

pub returns-then-word-letter : goal.returns-then-word-letter
returns-then-word-letter c =
    c.number.ensures ∙ after-letter c.args.most c.args.letter c.args.word.now c.if-word-eq0.false c.if-word-letter.true

pub returns : goal.returns
returns c = after-other _ _ _ c.if-word-letter.false
