-- Lent lines by value: a list of them, laid over the first places of as many as a yard may have carriers.
-- Assumes nothing.
use Rattle.std.specs.Prelude.{List, [], ◌∷◌, map, ℕ, min, length, get_or, take, replicate}
use Rattle.paper.specs.Basics.{up_to}
use Rattle.paper.specs.Limits.{most_bays}
use Rattle.paper.specs.Yard.{Carrier}
use Rattle.bills.specs.Billing.{no_line}
use Rattle.bills.specs.declared.Line.{Line}
use Rattle.held_lines.specs.declared.HeldLines.{HeldLines}

-- as many lines as are held, none of them read
abbrev pub no_lines : List Line
no_lines = replicate most_bays no_line

abbrev pub held_of : ℕ → List Line → HeldLines
held_of n ls = record { count = n; lines = ls }

abbrev pub top_of : ℕ → ℕ
top_of n = min n most_bays

abbrev pub line_at : HeldLines → ℕ → Line
line_at held i = get_or held.lines i no_line

-- the lines over the first places of others
unfoldable pub laid : List Line → List Line → List Line
laid [] others = others
laid (l ∷ ls) [] = []
laid (l ∷ ls) (o ∷ others) = l ∷ laid ls others

-- all that is held of lent lines
abbrev pub gathered : List Line → HeldLines
gathered ls = held_of (length ls) (laid ls no_lines)

-- the lines of what is held: the first `count`, whatever stands behind them
abbrev pub lines_held : HeldLines → List Line
lines_held held = take held.count held.lines

-- the lines of so many carriers, from their counts and last names
abbrev pub listed : ℕ → List ℕ → List ℕ → List Line
listed k billed last = map (λ (c : Carrier). record { carrier = c; billed = get_or billed c 0; last = get_or last c 0 }) (up_to k)
