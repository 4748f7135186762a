-- behind the word stands the side.
use Rattle.std.proofs.Common.{sym, ◌∙◌, rules}
use Rattle.sides.proofs.Numbers.{after-word, after-other, after-short}
use Rattle.sides.proofs.side_after.Goals as goal

pub returns-then-k-text : goal.returns-then-k-text
returns-then-k-text c =
    c.side.ensures ∙ after-word c.args.word.now c.args.text.now (sym c.begins_with.ensures ∙ c.if-begins_with.true)

pub returns-then-begins_with : goal.returns-then-begins_with
returns-then-begins_with c =
    after-short c.args.word.now c.args.text.now (sym c.begins_with.ensures ∙ c.if-begins_with.true) (search rules)

pub returns : goal.returns
returns c =
    after-other c.args.word.now c.args.text.now (sym c.begins_with.ensures ∙ c.if-begins_with.false)
