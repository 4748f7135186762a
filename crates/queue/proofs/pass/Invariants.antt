use Rattle.std.proofs.Common.{ℕ, List, take}
use Rattle.queue.specs.Queue.{Met, Passed}
use Rattle.queue.proofs.pass.Given as goal

abbrev pub invariant-loop-done : goal.invariant-loop-done
invariant-loop-done l =
    let first = l.initial in
    (held : List ℕ) (x : ℕ) → Met l.n l.table held x first.seen (take l.count first.met) first.before l.start
    → Passed l.n l.table held x first.met l.count l.seen l.met l.before l.done l.c
