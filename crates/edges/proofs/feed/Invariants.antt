-- The bytes passed were read and their ends stored.
use Rattle.std.proofs.Common.{ℕ, ◌+◌, ◌<◌, List, ◌++◌, length, take}
use Rattle.paper.specs.Text.{Text}
use Rattle.edge_lines.specs.Lines.{last_line}
use Rattle.edges.specs.Held.{Came}
use Rattle.edges.proofs.feed.Given as goal

abbrev pub invariant-loop-b : goal.invariant-loop-b
invariant-loop-b l =
    (t : Text) (before : List ℕ) → length t + length l.piece < last_line → Came t l.initial.now before l.initial.ends
    → Came (t ++ take l.b-index l.piece) l.now before l.ends
