-- Plans and reported names read from files, line by line. The line rules are document 01's (the paper's `lines`).
-- Assumes nothing.
use Rattle.std.specs.Prelude.{Bool, List, [], ◌∷◌, ◌++◌, ℕ}
use Rattle.std.proofs.Math.Option.{Option, none, some}
use Rattle.paper.specs.Text.{Text, lines, Read, read_lines}
use Rattle.line_entries.specs.declared.Entry.{Entry}
use Rattle.line_entries.specs.declared.Entry.TheVariants.{Number, Comment, Broken}
use Rattle.line_entries.specs.Entries.{entry_in}

-- a number goes behind those before it
abbrev pub behind : List ℕ → Entry → Option (List ℕ)
behind ns (Number n) = some (ns ++ (n ∷ []))
behind ns Comment = some ns
behind ns Broken = none

abbrev pub entry_line : Bool → List ℕ → Text → Option (List ℕ)
entry_line reports ns l = behind ns (entry_in reports l)

-- the numbers, or the first bad line
unfoldable pub read_entries : Bool → Text → Read (List ℕ)
read_entries reports file = read_lines (entry_line reports) some 1 [] (lines file)
