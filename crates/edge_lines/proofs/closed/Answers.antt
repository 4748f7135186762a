-- `edge_lines::closed` meets its contract.
use Rattle.std.proofs.Common.{refl, take, rules}
use Rattle.survey.specs.Bytes.{line_worth}
use Rattle.edge_lines.proofs.Closing.{closes-none, closes-few, closes-two, closes-comment}
use Rattle.edge_lines.proofs.closed.Goals as goal

pub returns-then-k-ge1 : goal.returns-then-k-ge1
returns-then-k-ge1 c = closes-two c.args.s _ _ _ _ c.in-Second.is c.if-k-ge1.true c.take.ensures

pub returns-in-Fresh : goal.returns-in-Fresh
unfolding line_worth
returns-in-Fresh c = closes-none c.args.s _ _ c.in-Fresh.is (λ w a. refl) c.broken.ensures

pub returns-in-Comment : goal.returns-in-Comment
returns-in-Comment c = closes-comment c.args.s _ _ _ c.in-Comment.is c.opened.ensures

pub returns-in-Broken : goal.returns-in-Broken
unfolding line_worth
returns-in-Broken c = closes-none c.args.s _ _ c.in-Broken.is (λ w a. refl) c.broken-in-Broken.ensures

pub returns-in-Word : goal.returns-in-Word
unfolding line_worth
returns-in-Word c = closes-none c.args.s _ _ c.in-Word.is (λ w a. refl) c.broken-in-Word.ensures

pub returns-in-First : goal.returns-in-First
unfolding line_worth
returns-in-First c = closes-none c.args.s _ _ c.in-First.is (λ w a. refl) c.broken-in-First.ensures

pub returns-else-k-ge1 : goal.returns-else-k-ge1
returns-else-k-ge1 c = closes-few c.args.s _ _ _ _ c.in-Second.is c.if-k-ge1.false c.broken-in-Second.ensures
