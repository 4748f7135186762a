-- What is left to be read, after n was read, gives what the whole does.
use Rattle.std.proofs.Common.{◌≡◌, ◌≤◌, drop}
use Rattle.line_entries.proofs.Numbers.{read_from, whole}
use Rattle.line_entries.proofs.number.Given as goal

abbrev pub invariant-loop-b : goal.invariant-loop-b
invariant-loop-b l = record {
  within : l.n ≤ l.most;
  reads : read_from l.most l.n (drop l.b-index l.digits) ≡ whole l.digits l.most;
}
