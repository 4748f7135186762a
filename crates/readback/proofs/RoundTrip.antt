-- Reading undoes printing. What the paper reads of a plan's lines is read here too, if its numbers fit, and those of a lent plan do.
use mathlib.Core.Path.{◌≡◌, sym, ◌∙◌, ap}
use mathlib.Core.Bool.{true, false}
use mathlib.Core.List.{List, [], ◌∷◌, ◌++◌, map, append_assoc, append-nil}
use mathlib.Core.Option.{none, some}
use Prim.Native.Nat.{ℕ, suc, ◌<◌, ◌^◌}
use native.Mathlib.Omega.{arith}
use lib.Dec.{eqb}
use lib.ListN.{get_or}
use borrow.Author.Tests.{le-leb}
use Rattle.paper.specs.Basics.{◌and◌}
use Rattle.paper.specs.Yard.{Crossing, pack, unpack, crossings}
use Rattle.paper.specs.Text.{Text, lines, good, read_lines}
use Rattle.paper.specs.Print.{print_plan, read_action, read_plan}
use Rattle.paper.proofs.Tests.{by_cases, by-option, never-some}
use Rattle.paper.proofs.Packing.{unpack-small, packed-back}
use Rattle.laws.proofs.Printing.{print-back}
use Rattle.line_entries.specs.Entries.{fits, entry_of, plan_entry}
use Rattle.readback.specs.Entries.{entry_line, read_entries}

abbrev AllFit : List Crossing → Type 0
AllFit [] = Unit {0}
AllFit (x ∷ xs) = (fits x ≡ true) × AllFit xs

abbrev on : ℕ → List ℕ → List Text → Type 0
on n acc ls = (xs : List Crossing) → read_plan ls ≡ some xs → AllFit xs → read_lines (entry_line false) some n acc ls ≡ good (acc ++ map pack xs)

paper-comment : (n : ℕ) (acc : List ℕ) (l : Text) (ls : List Text) → eqb (get_or l 0 0) 59 ≡ true → on (suc n) acc ls → on n acc (l ∷ ls)
unfolding read_plan read_lines plan_entry
paper-comment n acc l ls e ih xs h k = let g : read_plan ls ≡ some xs = rw e at h in rw e (ih xs g k)

paper-action : (n : ℕ) (acc : List ℕ) (l : Text) (ls : List Text) (x : Crossing) → eqb (get_or l 0 0) 59 ≡ false → read_action l ≡ some x → on (suc n) (acc ++ (pack x ∷ [])) ls → on n acc (l ∷ ls)
unfolding read_plan read_lines plan_entry entry_of
paper-action n acc l ls x e f ih xs h k =
    by-option (read_plan ls)
    (λ g. let z : none ≡ some xs = rw (e, f, g) at h in never-some xs z)
    (λ ys g.
    let z : some (x ∷ ys) ≡ some xs = rw (e, f, g) at h in
    let q : x ∷ ys ≡ xs = cc in
    let fit : AllFit (x ∷ ys) = rw (← q) at k in
    rw (← q, e, f, fit.0) (ih ys g fit.1 ∙ ap good (append_assoc acc (pack x ∷ []) (map pack ys))))

-- what the paper reads is read
paper-reads : (n : ℕ) (acc : List ℕ) (ls : List Text) → on n acc ls
unfolding read_plan read_lines
paper-reads n acc [] = λ xs h k. let q : [] ≡ xs = cc in rw (← q) (ap good (sym (append-nil acc)))
paper-reads n acc (l ∷ ls) =
    by_cases (eqb (get_or l 0 0) 59)
    (λ e. paper-comment n acc l ls e (paper-reads (suc n) acc ls))
    (λ e. by-option (read_action l)
    (λ f xs h k. let z : none ≡ some xs = rw (e, f) at h in never-some xs z)
    (λ x f. paper-action n acc l ls x e f (paper-reads (suc n) (acc ++ (pack x ∷ [])) ls)))

-- ## A lent plan
abbrev pub Lent : List ℕ → Type 0
Lent [] = Unit {0}
Lent (w ∷ ws) = (w < 2 ^ 64) × Lent ws

all_fit : (plan : List ℕ) → Lent plan → AllFit (crossings plan)
unfolding fits ◌and◌
all_fit [] h = tt
all_fit (w ∷ ws) h =
    let s = unpack-small w h.0 in
    (rw (le-leb (unpack w).carrier 4294967295 (omega arith), le-leb (unpack w).from 65535 (omega arith), le-leb (unpack w).to 65535 (omega arith)), all_fit ws h.1)

-- what any text reads as whose lines the paper reads as the plan
pub reads_as : (plan : List ℕ) (file : Text) → Lent plan → read_plan (lines file) ≡ some (crossings plan) → read_entries false file ≡ good plan
unfolding read_entries
reads_as plan file h e = paper-reads 1 [] (lines file) (crossings plan) e (all_fit plan h) ∙ ap good (packed-back plan)

-- Reading the print of a list of 64-bit numbers gives the list.
pub print-reads-back : (plan : List ℕ) → Lent plan → read_entries false (print_plan (crossings plan)) ≡ good plan
print-reads-back plan h = reads_as plan (print_plan (crossings plan)) h (print-back (crossings plan))
