-- The timed plan: "one `T: (move ..) [1]` a line in plan order, T the slot less one, the comment line last as in 01"; and reading it.
-- Assumes nothing.
use Rattle.std.specs.Prelude.{List, [], ◌∷◌, ◌++◌, ℕ, suc, ◌-◌, eqb, leb, length, get_or, take, drop, if◌then◌else◌}
use Rattle.std.proofs.Math.Option.{Option, none, some}
use Rattle.paper.specs.Basics.{◌and◌, ◌>>=◌}
use Rattle.paper.specs.Yard.{Crossing}
use Rattle.paper.specs.Text.{Text, text, SPACE, split, same, all, is_digit, value}
use Rattle.paper.specs.Print.{decimal, action_line, cost_line, ended, read_action}
use Rattle.trains.specs.Slots.{Timed}

unfoldable pub timed_line : ℕ → Crossing → Text
timed_line s x = decimal (s - 1) ++ text ": " ++ action_line x ++ text " [1]"

-- the lines of the crossings, each with its slot
unfoldable pub timed_lines : List ℕ → List Crossing → List Text
timed_lines [] xs = []
timed_lines (s ∷ ss) [] = []
timed_lines (s ∷ ss) (x ∷ xs) = timed_line s x ∷ timed_lines ss xs

unfoldable pub print_timed : List ℕ → List Crossing → Text
print_timed ss xs = ended (timed_lines ss xs ++ (cost_line (length xs) ∷ []))

-- ## Reading a timed print, as the next program in the chain does

-- digits, then a colon
unfoldable pub read_time : Text → Option ℕ
read_time w =
    let ps = split 58 w in
    let d = get_or ps 0 [] in
    if eqb (length ps) 2 and same (get_or ps 1 []) [] and leb 1 (length d) and all is_digit d then some (value d) else none

-- words, with a space between them
unfoldable pub spaced : List Text → Text
spaced [] = []
spaced (w ∷ []) = w
spaced (w ∷ v ∷ ws) = w ++ (SPACE ∷ spaced (v ∷ ws))

-- Six words: the time, the four of an action, "[1]". The slot is the time and one.
unfoldable pub read_timed_line : Text → Option Timed
read_timed_line l =
    let ws = split SPACE l in
    if eqb (length ws) 6 and same (get_or ws 5 []) (text "[1]")
    then read_time (get_or ws 0 []) >>= (λ t. read_action (spaced (take 4 (drop 1 ws))) >>= (λ x. some (x, suc t)))
    else none

-- one crossing a line, with its slot; a line that begins with a semicolon is a comment
unfoldable pub read_timed : List Text → Option (List Timed)
read_timed [] = some []
read_timed (l ∷ ls) =
    let rest = read_timed ls in
    if eqb (get_or l 0 0) 59 then rest else read_timed_line l >>= (λ m. rest >>= (λ ms. some (m ∷ ms)))
