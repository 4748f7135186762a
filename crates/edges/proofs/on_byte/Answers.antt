-- `edges::on_byte` meets its contract.
use Rattle.std.proofs.Common.{rules, eq-eqb, ne_eqb}
use Rattle.survey.specs.Bytes.{line_byte}
use Rattle.edge_lines.specs.Lines.{word_by}
use Rattle.edges.proofs.on_byte.Goals as goal

pub returns-then-b-eq99 : goal.returns-then-b-eq99
unfolding line_byte
returns-then-b-eq99 c = rw (c.in-Fresh.is, eq-eqb _ _ c.if-b-eq99.true)

pub returns-else-b-eq99 : goal.returns-else-b-eq99
unfolding line_byte
returns-else-b-eq99 c = rw (c.in-Fresh.is, ne_eqb _ _ c.if-b-eq99.false) c.due_byte.ensures

pub returns-in-Comment : goal.returns-in-Comment
unfolding line_byte
returns-in-Comment c = rw c.in-Comment.is

pub returns-in-Broken : goal.returns-in-Broken
unfolding line_byte
returns-in-Broken c = rw c.in-Broken.is

pub returns-in-Word : goal.returns-in-Word
unfolding line_byte
returns-in-Word c = rw c.in-Word.is c.due_byte-in-Word.ensures

pub returns-in-First : goal.returns-in-First
unfolding line_byte
returns-in-First c = rw c.in-First.is (c.first_byte.ensures (word_by c.args.due))

pub returns-in-Second : goal.returns-in-Second
unfolding line_byte
returns-in-Second c = rw c.in-Second.is (c.second_byte.ensures (word_by c.args.due))
