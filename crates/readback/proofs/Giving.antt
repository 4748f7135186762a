-- What the first reading found decides the answer; only a good file that fits is read into the lent list.
use Rattle.std.proofs.Common.{Err, Ok}
use mathlib.Core.Path.{◌≡◌, sym, ◌∙◌, ap}
use mathlib.Core.Bool.{Bool, true, false}
use mathlib.Core.List.{List}
use Prim.Native.Nat.{ℕ, ◌≤◌, ◌<◌}
use native.Mathlib.Omega.{arith}
use lib.ListN.{length}
use borrow.Author.Tests.{le-leb, lt-leb}
use Rattle.paper.specs.Yard.{most_crossings}
use Rattle.paper.specs.Text.{Text, Read, good, bad_line}
use Rattle.paper.proofs.Tests.{by_read}
use Rattle.docket.specs.Verdict.{Verdict}
use Rattle.docket.specs.declared.Refusal.TheVariants.{Room, Size, BadPlan, BadReports}
use Rattle.handing.specs.Handing.{handed}
use Rattle.handing.proofs.Fitting.{wrote-hands, short, handed-fits, handed-short}
use Rattle.readback.specs.Entries.{read_entries}
use Rattle.readback.specs.Steps.{count_in, found_of, Folds}
use Rattle.readback.specs.Files.{PlanRead, ReportsRead, Gives}
use Rattle.readback.specs.Found.{Found}

never : {P : Type 0} {k n : ℕ} → ◌≡◌ {A = Read ℕ} (good k) (bad_line n) → P
never e = let z : ◌≡◌ {A = ℕ} 0 1 = cc in absurd (omega arith)

-- ## Handing over
module _ (reports : Bool) (file : Text) (count : ℕ) (before : List ℕ) where
  pub gives : {r : Found} {after : List ℕ} → count ≤ length before → Folds reports file before r after → Gives reports file count before (Ok count) after
  gives h w = record {
    answers = handed-fits count (length before) h;
    leaves = λ ns e k. (wrote-hands (w.stored ns e) (rw (← k) h)).leaves;
  }

  pub gives-short : length before < count → Gives reports file count before (Err (Room count)) before
  gives-short h = record { answers = handed-short count (length before) h; leaves = λ ns e k. short ns before (rw (← k) h) }

-- ## What was found
module _ (reports : Bool) (file : Text) {l l' : List ℕ} {r : Found} (w : Folds reports file l r l') where
  found-good : (count : ℕ) → r ≡ Ok count → (ns : List ℕ) × (read_entries reports file ≡ good ns) × (count ≡ length ns)
  found-good count e =
      let a : good count ≡ count_in (read_entries reports file) = ap found_of (sym e) ∙ w.answer in
      by_read (read_entries reports file)
      (λ ns q. let b : good count ≡ good (length ns) = a ∙ ap count_in q in (ns, q, cc))
      (λ n q. never (a ∙ ap count_in q))

  found-bad : (line : ℕ) → r ≡ Err line → read_entries reports file ≡ bad_line line
  found-bad line e =
      let a : bad_line line ≡ count_in (read_entries reports file) = ap found_of (sym e) ∙ w.answer in
      by_read (read_entries reports file)
      (λ ns q. never (sym (a ∙ ap count_in q)))
      (λ n q. let b : bad_line line ≡ bad_line n = a ∙ ap count_in q in let k : line ≡ n = cc in q ∙ ap bad_line (sym k))

-- ## A plan's file
module _ (file : Text) (before : List ℕ) {l l' : List ℕ} {r : Found} (w : Folds false file l r l') where
  pub plan-bad : (line : ℕ) → r ≡ Err line → PlanRead file before (Err (BadPlan line)) before
  plan-bad line e = let q = found-bad false file w line e in record { answers = rw q; leaves = rw q }

  pub plan-over : (count : ℕ) → r ≡ Ok count → most_crossings < count → PlanRead file before (Err Size) before
  plan-over count e h =
      let f = found-good false file w count e in
      let q = f.1 in
      let k = lt-leb (length f.0) most_crossings (rw (← f.2) h) in
      record { answers = rw (q, k); leaves = rw (q, k) }

  pub plan-gives : (count : ℕ) → r ≡ Ok count → count ≤ most_crossings → {a : Verdict} {after : List ℕ} → Gives false file count before a after → PlanRead file before a after
  plan-gives count e h g =
      let f = found-good false file w count e in
      let q = f.1 in
      let k = le-leb (length f.0) most_crossings (rw (← f.2) h) in
      record { answers = rw (q, k) (g.answers ∙ ap (λ n. handed n (length before)) f.2); leaves = rw (q, k) (g.leaves f.0 q f.2) }

-- ## A file of reports
module _ (file : Text) (before : List ℕ) {l l' : List ℕ} {r : Found} (w : Folds true file l r l') where
  pub reports-bad : (line : ℕ) → r ≡ Err line → ReportsRead file before (Err (BadReports line)) before
  reports-bad line e = let q = found-bad true file w line e in record { answers = rw q; leaves = rw q }

  pub reports-give : (count : ℕ) → r ≡ Ok count → {a : Verdict} {after : List ℕ} → Gives true file count before a after → ReportsRead file before a after
  reports-give count e g =
      let f = found-good true file w count e in
      let q = f.1 in
      record { answers = rw q (g.answers ∙ ap (λ n. handed n (length before)) f.2); leaves = rw q (g.leaves f.0 q f.2) }
