-- The print is its parts one behind the other: lines follow lines.
use mathlib.Core.Path.{◌≡◌, refl, sym, ◌∙◌, ap}
use mathlib.Core.List.{List, [], ◌∷◌, ◌++◌, map, map-append, append_assoc}
use mathlib.Core.Bool.{true, false}
use mathlib.Core.Option
use mathlib.Core.Option.{Option, none, some}
use Prim.Native.Nat.{ℕ, ◌+◌, ◌*◌, ◌^◌, ◌≤◌, ◌<◌}
use native.Mathlib.Omega.{arith}
use native.Mathlib.Numerals.{add-one}
use lib.ListN.{length, take, get_or, length-append, length-map}
use lib.Seq.{take-suc}
use borrow.Author.Tests.{le-leb, lt-leb}
use Rattle.paper.specs.Yard.{unpack, crossings, most_crossings}
use Rattle.paper.specs.Docket.{Refusal, number, carried, room}
use Rattle.paper.specs.Answers.{refused}
use Rattle.paper.specs.Text.{Text, text, LF}
use Rattle.paper.proofs.Packing.{unpack-small}
use Rattle.paper.specs.Print.{action_line, cost_line, refused_line, ended, plan_lines, print_plan, printed}
use Rattle.docket.specs.Reading.{is_some}
use Rattle.printing.specs.Parts.{action_lines, handed}
use Rattle.put_bytes.specs.Named.{named}
use Rattle.put_bytes.proofs.Short.{named-short}
use Rattle.plan_lines.proofs.Lines.{action-parts}

pub refusal-plain : (r : Refusal) → carried r ≡ none → named (text "; refused ") (number r) ++ text "\n" ≡ printed (refused r)
unfolding named printed refused_line ended
refusal-plain r e = rw e (sym (append_assoc (named (text "; refused ") (number r)) [] (LF ∷ [])))

pub refusal-carried : (r : Refusal) (v : ℕ) → carried r ≡ some v → named (text "; refused ") (number r) ++ named (text " ") v ++ text "\n" ≡ printed (refused r)
unfolding named printed refused_line ended
refusal-carried r v e = rw e

pub some-carried : (o : Option ℕ) (v : ℕ) → is_some o ≡ true → v ≡ Option.get_or o 0 → o ≡ some v
some-carried none v e f = let z : ◌≡◌ {A = ℕ} 0 1 = cc in absurd (omega arith)
some-carried (some a) v e f = ap some (sym f)

pub none-carried : (o : Option ℕ) → is_some o ≡ false → o ≡ none
none-carried none e = refl
none-carried (some a) e = let z : ◌≡◌ {A = ℕ} 0 1 = cc in absurd (omega arith)

pub ended-append : (ls ms : List Text) → ended (ls ++ ms) ≡ ended ls ++ ended ms
unfolding ended
ended-append [] ms = refl
ended-append (l ∷ ls) ms = rw (ended-append ls ms) (sym (append_assoc l (LF ∷ ended ls) (ended ms)))

lines-append : (a b : List ℕ) → action_lines (a ++ b) ≡ action_lines a ++ action_lines b
unfolding action_lines
lines-append a b =
    ap ended (ap (map action_line) (map-append unpack a b) ∙ map-append action_line (crossings a) (crossings b))
    ∙ ended-append (map action_line (crossings a)) (map action_line (crossings b))

pub lines_none : action_lines [] ≡ []
unfolding action_lines ended
lines_none = refl

lines-one : (w : ℕ) → action_lines (w ∷ []) ≡ ended (action_line (unpack w) ∷ [])
unfolding action_lines
lines-one w = refl

pub lines_more : (plan : List ℕ) (i : ℕ) → i < length plan → action_lines (take (i + 1) plan) ≡ action_lines (take i plan) ++ ended (action_line (unpack (get_or plan i 0)) ∷ [])
lines_more plan i h = rw (add-one i, take-suc plan i 0 h) (lines-append (take i plan) (get_or plan i 0 ∷ []) ∙ ap (λ t. action_lines (take i plan) ++ t) (lines-one (get_or plan i 0)))

pub plan-parts : (plan : List ℕ) → length plan ≤ most_crossings → action_lines plan ++ ended (cost_line (length plan) ∷ []) ≡ printed (handed plan)
unfolding action_lines handed printed print_plan plan_lines
plan-parts plan h =
    rw (le-leb (length plan) most_crossings h, length-map plan unpack) (sym (ended-append (map action_line (crossings plan)) (cost_line (length plan) ∷ [])))

-- each action's line is short, and so are they all
action-short : (w : ℕ) → w < 2 ^ 64 → length (ended (action_line (unpack w) ∷ [])) ≤ 80
action-short w h =
    let s = unpack-small w h in
    rw (← action-parts (unpack w)) (simp length-append (omega (arith, named-short (text "(move c") (unpack w).carrier (omega arith), named-short (text " b") (unpack w).from (omega arith), named-short (text " b") (unpack w).to (omega arith))))

pub lines-short : (plan : List ℕ) (i : ℕ) → i < length plan → get_or plan i 0 < 2 ^ 64 → length (action_lines (take i plan)) ≤ 80 * i → length (action_lines (take (i + 1) plan)) ≤ 80 * (i + 1)
lines-short plan i h f s =
    rw (lines_more plan i h) (simp length-append (omega (arith, action-short (get_or plan i 0) f)))

pub plan-over : (plan : List ℕ) → most_crossings < length plan → printed (handed plan) ≡ printed (refused (room (length plan)))
unfolding handed
plan-over plan h = rw (lt-leb (length plan) most_crossings h)
