-- `edges::first_byte` meets its contract.
use Rattle.std.proofs.Common.{sym, ◌∙◌, rules}
use Rattle.edges.proofs.Parts.{first-space, first-none, first_on, first-other, first-long}
use Rattle.edges.proofs.first_byte.Goals as goal

pub returns-then-k-ge1 : goal.returns-then-k-ge1
returns-then-k-ge1 c = λ w. first-space w c.args.k c.args.n c.args.b c.if-b-eq32.true c.if-k-ge1.true

pub returns-then-b-eq32 : goal.returns-then-b-eq32
returns-then-b-eq32 c = λ w. first-none w c.args.k c.args.n c.args.b c.if-b-eq32.true c.if-k-ge1.false

pub returns-then-is_digit : goal.returns-then-is_digit
returns-then-is_digit c =
    λ w. first_on w c.args.k c.args.n c.args.b c.if-b-eq32.false c.if-k-lt5.true (sym c.is_digit.ensures ∙ c.if-is_digit.true) _ c.tallied.ensures

pub returns-then-k-lt5 : goal.returns-then-k-lt5
returns-then-k-lt5 c =
    λ w. first-other w c.args.k c.args.n c.args.b c.if-b-eq32.false (sym c.is_digit.ensures ∙ c.if-is_digit.false)

pub returns : goal.returns
returns c = λ w. first-long w c.args.k c.args.n c.args.b c.if-b-eq32.false c.if-k-lt5.false
