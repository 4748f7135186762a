-- The first i bytes are stored.
use Rattle.std.proofs.Common.{◌+◌, take}
use Rattle.stores.specs.Writing.{Wrote}
use Rattle.put_bytes.proofs.put_text.Given as goal

abbrev pub invariant-loop-i : goal.invariant-loop-i
invariant-loop-i l = Wrote l.initial.out l.at (take l.i l.text) l.out (l.at + l.i)
