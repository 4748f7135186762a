-- A line is its parts one behind the other: an action is three numbers with what stands before them.
use mathlib.Core.Path.{◌≡◌, sym}
use mathlib.Core.List.{[], ◌∷◌, ◌++◌, append_assoc}
use Prim.Native.Nat.{ℕ}
use Rattle.paper.specs.Yard.{Crossing}
use Rattle.paper.specs.Text.{Text, text, LF}
use Rattle.paper.specs.Print.{decimal, action_line, cost_line, ended}
use Rattle.put_bytes.specs.Named.{named}

seven : (a c b f t e l : Text) → ((a ++ c) ++ (b ++ f) ++ (b ++ t)) ++ (e ++ l) ≡ ((((((a ++ c) ++ b) ++ f) ++ b) ++ t) ++ e) ++ l
seven a c b f t e l = simp append_assoc

pub action-parts : (x : Crossing) → named (text "(move c") x.carrier ++ named (text " b") x.from ++ named (text " b") x.to ++ text ")\n" ≡ ended (action_line x ∷ [])
unfolding named action_line ended
action-parts x = seven (text "(move c") (decimal x.carrier) (text " b") (decimal x.from) (decimal x.to) (text ")") (LF ∷ [])

pub cost-parts : (n : ℕ) → named (text "; cost = ") n ++ text " (unit cost)\n" ≡ ended (cost_line n ∷ [])
unfolding named cost_line ended
cost-parts n = sym (append_assoc (named (text "; cost = ") n) (text " (unit cost)") (LF ∷ []))
