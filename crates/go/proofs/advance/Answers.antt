-- `go::advance` meets its contract. Where the bay is empty the step is the crossing alone; else the contract is that of the step.
use Rattle.std.proofs.Common.{sym, ◌∙◌, arith, rules}
use Rattle.step.proofs.Stepping.{stepped-free}
use Rattle.go.proofs.advance.Goals as goal

pub step_in-requires : goal.step_in-requires
step_in-requires c =
    let p = c.requires.ready in
    let z = c.requires.step_asks in
    let free = sym c.is_in.ensures ∙ c.if-is_in.true in
    let there = z.can.carrier_there in
    record { most = p.most; empty_size = p.empty_size; settled_size = z.below.size; placed = p.placed; carrier_there = there; bay_there = z.can.bay_there; free = free }

pub returns-then-is_in : goal.returns-then-is_in
returns-then-is_in c =
    let step_in = c.step_in in
    let if1 = c.if-is_in in
    let is-in = c.is_in in
    let p = c.requires.ready in
    let z = c.requires.step_asks in
    let free = sym if1.true ∙ is-in.ensures in
    let crossed = step_in.ensures.crosses in
    record {
      says = record { few = omega (arith, crossed.counted); proceeds = λ t. stepped-free t p.most z.can p.placed free crossed };
      below = step_in.ensures.below c.args.next.finished z.below;
    }
