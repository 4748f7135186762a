-- What is stored so far is the beginning of the paper's undo.
use Rattle.std.proofs.Common.{◌≡◌, length}
use Rattle.undo.specs.Turning.{Crossings, Small, Holds}
use Rattle.undo.proofs.Undoing.{Undoing}
use Rattle.undo.proofs.undo.Given as goal

abbrev pub invariant-loop-j : goal.invariant-loop-j
invariant-loop-j l = (xs : Crossings) → Small xs → Holds l.initial.out l.from xs → length xs ≡ l.many → Undoing l.initial.out l.at l.l.0 l.m.0 xs l.j l.out
