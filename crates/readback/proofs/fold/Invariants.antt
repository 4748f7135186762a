-- `readback::fold` meets its contract. What is left of the file reads, behind the numbers so far, as the whole does.
use Rattle.std.proofs.Common.{◌≡◌, sym, ◌∙◌, ◌+◌, ◌-◌, ◌≤◌, arith, length, rules}
use Rattle.stores.proofs.Stores.{wrote-length}
use Rattle.readback.proofs.Folding.{Came, came-none, came-next, came-bad, came-end, numbers-few}
use Rattle.readback.proofs.fold.Given as goal

abbrev pub invariant-loop-stop : goal.invariant-loop-stop
invariant-loop-stop l = (l.at ≤ length l.file) × ((l.line ≤ l.at + 1) × ((l.count ≤ l.at) × ((length l.out ≡ length l.initial.out) × Came l.reports l.file l.initial.out l.out l.at l.line l.count)))

abbrev pub decreases-loop-stop : goal.decreases-loop-stop
decreases-loop-stop l = length l.file - l.at
