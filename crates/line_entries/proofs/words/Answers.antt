-- `line_entries::words` meets its contract.
use Rattle.std.proofs.Common.{sym, ◌∙◌}
use Rattle.line_entries.proofs.Pieces.{words-no, words-yes, words-short}
use Rattle.line_entries.proofs.words.Goals as goal

pub returns-then-is_word : goal.returns-then-is_word
returns-then-is_word c = c.carrier.ensures ∙ words-yes _ _ c.cut-end.ensures c.if-end-text.true (sym c.is_word.ensures ∙ c.if-is_word.true)

pub returns-then-end-text : goal.returns-then-end-text
returns-then-end-text c = words-no _ _ c.cut-end.ensures c.if-end-text.true (sym c.is_word.ensures ∙ c.if-is_word.false)

pub returns : goal.returns
returns c = words-short _ _ c.cut-end.ensures c.if-end-text.false
