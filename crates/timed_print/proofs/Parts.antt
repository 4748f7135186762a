-- The timed print is its parts one behind the other: lines follow lines, and the cost is last.
use mathlib.Core.Path.{◌≡◌, refl, sym, ◌∙◌, ap}
use mathlib.Core.List.{List, [], ◌∷◌, ◌++◌}
use Prim.Native.Nat.{ℕ, zero, suc, ◌+◌, ◌*◌, ◌^◌, ◌≤◌, ◌<◌}
use native.Mathlib.Omega.{arith}
use native.Mathlib.Numerals.{add-one}
use lib.ListN.{length, take, get_or, length-append, length-map}
use Rattle.paper.specs.Yard.{unpack, crossings}
use Rattle.paper.proofs.Packing.{unpack-small}
use Rattle.paper.specs.Print.{cost_line, ended}
use Rattle.printing.proofs.Lines.{ended-append}
use Rattle.trains.specs.Print.{timed_line, timed_lines, print_timed}
use Rattle.timed_line.proofs.Parts.{line-short}
use Rattle.timed_print.specs.Lines.{lines_of}

-- one line more
lines_snoc : (ss ws : List ℕ) (i : ℕ) → i < length ws → i < length ss
    → timed_lines (take (suc i) ss) (crossings (take (suc i) ws))
    ≡ timed_lines (take i ss) (crossings (take i ws)) ++ (timed_line (get_or ss i 0) (unpack (get_or ws i 0)) ∷ [])
unfolding timed_lines
lines_snoc [] ws i h k = absurd (omega arith)
lines_snoc (s ∷ ss) [] i h k = absurd (omega arith)
lines_snoc (s ∷ ss) (w ∷ ws) zero h k = refl
lines_snoc (s ∷ ss) (w ∷ ws) (suc i) h k = ap (λ l. timed_line s (unpack w) ∷ l) (lines_snoc ss ws i (omega arith) (omega arith))

pub lines_none : (ss ws : List ℕ) → lines_of (take 0 ss) (take 0 ws) ≡ []
unfolding lines_of timed_lines ended
lines_none ss ws = refl

pub lines_more : (ss ws : List ℕ) (i : ℕ) → i < length ws → i < length ss
    → lines_of (take (i + 1) ss) (take (i + 1) ws) ≡ lines_of (take i ss) (take i ws) ++ ended (timed_line (get_or ss i 0) (unpack (get_or ws i 0)) ∷ [])
unfolding lines_of
lines_more ss ws i h k = rw (add-one i) (ap ended (lines_snoc ss ws i h k) ∙ ended-append _ (timed_line (get_or ss i 0) (unpack (get_or ws i 0)) ∷ []))

pub lines-short : (ss ws : List ℕ) (i : ℕ) → i < length ws → i < length ss → get_or ws i 0 < 2 ^ 64 → get_or ss i 0 < 2 ^ 32
    → length (lines_of (take i ss) (take i ws)) ≤ 100 * i → length (lines_of (take (i + 1) ss) (take (i + 1) ws)) ≤ 100 * (i + 1)
lines-short ss ws i h k f g s =
    let u = unpack-small (get_or ws i 0) f in
    rw (lines_more ss ws i h k)
    (simp length-append (omega (arith, line-short (get_or ss i 0) (unpack (get_or ws i 0)) (omega arith) (omega arith) (omega arith) (omega arith))))

pub print-parts : (ss ws : List ℕ) → lines_of ss ws ++ ended (cost_line (length ws) ∷ []) ≡ print_timed ss (crossings ws)
unfolding lines_of print_timed
print-parts ss ws = rw (length-map ws unpack) (sym (ended-append (timed_lines ss (crossings ws)) (cost_line (length ws) ∷ [])))
