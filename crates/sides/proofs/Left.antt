-- The file, line by line: what is left of it reads as the whole does.
use Rattle.std.proofs.Common.{◌≡◌, ℕ, ◌+◌, [], drop, add-one}
use mathlib.Core.Option.{none, some}
use Rattle.paper.specs.Text.{lines, Text, Read, bad_line, read_lines}
use Rattle.lines.specs.Lines.{TextAt, part}
use Rattle.sides.specs.declared.Due.{Due}
use Rattle.sides.specs.Layout.{line_taken, due_end, end_taken}

module _ (file : Text) (n : ℕ) (d : Due) (from : ℕ) where
  abbrev left : Read (ℕ × ℕ)
  left = read_lines line_taken due_end n d (lines (drop from file))

  pub left_end : lines (drop from file) ≡ [] → end_taken n d ≡ left
  unfolding end_taken
  left_end e = rw e

  module _ (end next : ℕ) (t : TextAt file from end next) where
    pub left-bad : none ≡ line_taken d (part file from end) → bad_line n ≡ left
    unfolding read_lines
    left-bad e = rw (t.reads, ← e)

    pub left-on : (d' : Due) → some d' ≡ line_taken d (part file from end) → read_lines line_taken due_end (n + 1) d' (lines (drop next file)) ≡ left
    unfolding read_lines
    left-on d' e = rw (t.reads, ← e, add-one n)
