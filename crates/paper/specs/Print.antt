-- The print of a plan and of a refusal, and reading a printed plan.
-- Assumes nothing.
use Rattle.std.specs.Prelude.{List, [], ◌∷◌, ◌++◌, map, ℕ, zero, suc, ◌+◌, ◌/◌, ◌%◌, eqb, ltb, leb, length, get_or, if◌then◌else◌}
use Rattle.std.proofs.Math.Option.{Option, none, some}
use Rattle.paper.specs.Basics.{if_some◌then◌else◌, ◌and◌, ◌>>=◌}
use Rattle.paper.specs.Yard.{Crossing, crossing}
use Rattle.paper.specs.Docket.{number, carried}
use Rattle.paper.specs.Answers.{Answer, accepted, refused}
use Rattle.paper.specs.Text.{Text, text, LF, SPACE, split, same, all, is_digit, value}

-- a number in at most k + 1 digits, most significant first; n + 1 are enough for n
unfoldable pub spell : ℕ → ℕ → Text
spell zero n = (48 + n) ∷ []
spell (suc k) n = let rest = spell k (n / 10) in if ltb n 10 then (48 + n) ∷ [] else rest ++ ((48 + n % 10) ∷ [])

unfoldable pub decimal : ℕ → Text
decimal n = spell n n

-- "one action a line"
unfoldable pub action_line : Crossing → Text
action_line x =
    text "(move c" ++ decimal x.carrier ++ text " b" ++ decimal x.from ++ text " b" ++ decimal x.to ++ text ")"

unfoldable pub cost_line : ℕ → Text
cost_line n = text "; cost = " ++ decimal n ++ text " (unit cost)"

-- "`; refused N`, with a space and the carried number if there is one"
unfoldable pub refused_line : ℕ → Option ℕ → Text
refused_line n c = text "; refused " ++ decimal n ++ (if_some c then (λ v. SPACE ∷ decimal v) else [])

-- lines, each with its end
unfoldable pub ended : List Text → Text
ended [] = []
ended (l ∷ ls) = l ++ LF ∷ ended ls

unfoldable pub plan_lines : List Crossing → List Text
plan_lines xs = map action_line xs ++ (cost_line (length xs) ∷ [])

unfoldable pub print_plan : List Crossing → Text
print_plan xs = ended (plan_lines xs)

unfoldable pub printed : Answer → Text
printed (accepted xs) = print_plan xs
printed (refused r) = ended (refused_line (number r) (carried r) ∷ [])

-- ## Reading a printed plan, as the next program in the chain does

-- the letter, then digits
unfoldable pub number_after : ℕ → Text → Option ℕ
number_after c [] = none
number_after c (b ∷ d) = if eqb b c and leb 1 (length d) and all is_digit d then some (value d) else none

-- "(move", three numbers after their letters, ")"
unfoldable pub read_action : Text → Option Crossing
read_action l =
    let ps = split 41 l in
    let ws = split SPACE (get_or ps 0 []) in
    if eqb (length ps) 2 and same (get_or ps 1 []) [] and eqb (length ws) 4 and same (get_or ws 0 []) (text "(move")
    then number_after 99 (get_or ws 1 []) >>= (λ c. number_after 98 (get_or ws 2 []) >>= (λ a. number_after 98 (get_or ws 3 []) >>= (λ b. some (crossing c a b))))
    else none

-- one action a line; a line that begins with a semicolon is a comment
unfoldable pub read_plan : List Text → Option (List Crossing)
read_plan [] = some []
read_plan (l ∷ ls) =
    let rest = read_plan ls in
    if eqb (get_or l 0 0) 59 then rest else read_action l >>= (λ x. rest >>= (λ xs. some (x ∷ xs)))
