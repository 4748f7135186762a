-- `settle::settle` meets its contract. Where both bays are in the set, or neither is, trading them changes nothing.
use Rattle.std.proofs.Common.{◌∙◌, sym, ap, rules}
use Rattle.words.specs.Sets.{mem}
use Rattle.settle.proofs.Settling.{traded-alike, traded-one, trade-turned}
use Rattle.settle.proofs.settle.Goals as goal

pub returns-then-left : goal.returns-then-left
returns-then-left c =
    traded-alike (mem c.args.settled.now) c.args.u.0 c.args.w.0 (sym c.is_in-left.ensures ∙ c.if-left.true ∙ sym c.if-is_in.true ∙ c.is_in.ensures)

pub returns-then-is_in : goal.returns-then-is_in
returns-then-is_in c =
    let is-in = c.is_in-left in
    λ b.
    c.replace.ensures b ∙ traded-one (mem c.args.settled.now) c.args.w.0 c.args.u.0 (sym c.is_in.ensures ∙ c.if-is_in.true) (sym is-in.ensures ∙ c.if-left.false) b
    ∙ ap (mem c.args.settled.now) (trade-turned c.args.w.0 c.args.u.0 b)

pub returns-then-left-2 : goal.returns-then-left-2
returns-then-left-2 c =
    let is-in = c.is_in-left in
    λ b. c.replace-then-left-2.ensures b ∙ traded-one (mem c.args.settled.now) c.args.u.0 c.args.w.0 (sym is-in.ensures ∙ c.if-left-2.true) (sym c.is_in.ensures ∙ c.if-is_in.false) b

pub returns-else-left-2 : goal.returns-else-left-2
returns-else-left-2 c =
    traded-alike (mem c.args.settled.now) c.args.u.0 c.args.w.0 (sym c.is_in-left.ensures ∙ c.if-left-2.false ∙ sym c.if-is_in.false ∙ c.is_in.ensures)
