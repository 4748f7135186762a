-- `edges::second_byte` meets its contract.
use Rattle.std.proofs.Common.{sym, ◌∙◌, rules}
use Rattle.edges.proofs.Parts.{second-on, second-other, second-long}
use Rattle.edges.proofs.second_byte.Goals as goal

pub returns-then-is_digit : goal.returns-then-is_digit
returns-then-is_digit c =
    λ w. second-on w c.args.k c.args.n c.args.b c.args.p c.if-k-lt5.true (sym c.is_digit.ensures ∙ c.if-is_digit.true) _ c.tallied.ensures

pub returns-then-k-lt5 : goal.returns-then-k-lt5
returns-then-k-lt5 c =
    λ w. second-other w c.args.k c.args.n c.args.b c.args.p (sym c.is_digit.ensures ∙ c.if-is_digit.false)

pub returns : goal.returns
returns c = λ w. second-long w c.args.k c.args.n c.args.b c.args.p c.if-k-lt5.false
