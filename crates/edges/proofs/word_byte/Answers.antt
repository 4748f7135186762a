-- `edges::word_byte` meets its contract.
use Rattle.std.proofs.Common.{rules}
use Rattle.edges.proofs.Parts.{word-past, word-off, word-last, word_on}
use Rattle.edges.proofs.word_byte.Goals as goal

pub returns-then-at-word-2 : goal.returns-then-at-word-2
returns-then-at-word-2 c =
    word-last c.args.word.now c.args.past c.args.b c.if-at-word.true c.if-b-word.true c.if-at-word-2.true

pub returns-then-b-word : goal.returns-then-b-word
returns-then-b-word c =
    word_on c.args.word.now c.args.past c.args.b c.if-at-word.true c.if-b-word.true c.if-at-word-2.false

pub returns-then-at-word : goal.returns-then-at-word
returns-then-at-word c =
    word-off c.args.word.now c.args.past c.args.b c.if-at-word.true c.if-b-word.false

pub returns : goal.returns
returns c = word-past c.args.word.now c.args.past c.args.b c.if-at-word.false
