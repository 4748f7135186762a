-- A file's lines one by one: what is left of the file reads, behind the numbers so far, as the whole does.
use Rattle.std.proofs.Common.{Err, Ok}
use mathlib.Core.Path.{◌≡◌, refl, sym, ◌∙◌, ap}
use mathlib.Core.Bool.{Bool, true, false}
use mathlib.Core.List.{List, [], ◌++◌, append-nil}
use mathlib.Core.Option.{none, some}
use Prim.Native.Nat.{ℕ, suc, ◌+◌, ◌≤◌}
use native.Mathlib.Omega.{arith}
use native.Mathlib.Numerals.{add-one}
use lib.ListN.{length, drop}
use Rattle.paper.specs.Text.{Text, lines, good, bad_line, read_lines}
use Rattle.paper.proofs.Tests.{not-both}
use Rattle.stores.specs.Writing.{Wrote}
use Rattle.stores.proofs.Stores.{wrote_none, wrote_then, wrote-length}
use Rattle.lines.specs.Lines.{part, TextAt}
use Rattle.line_entries.specs.Entries.{entry_in}
use Rattle.readback.specs.Entries.{behind, entry_line, read_entries}
use Rattle.readback.specs.Steps.{numbers_of, is_broken, count_in, Folds}
use Rattle.line_entries.specs.declared.Entry.{Entry}
use Rattle.line_entries.specs.declared.Entry.TheVariants.{Number, Comment, Broken}

-- a line adds one number at most
pub numbers-few : (e : Entry) → length (numbers_of e) ≤ 1
numbers-few (Number n) = omega arith
numbers-few Comment = omega arith
numbers-few Broken = omega arith

module _ (reports : Bool) (file : Text) (before : List ℕ) where
  -- the numbers so far are stored, and the rest of the file goes on from them
  pub record Came (after : List ℕ) (at line count : ℕ) : Type 0 where
    pub numbers : List ℕ
    pub wrote : Wrote before 0 numbers after count
    pub left : read_lines (entry_line reports) some line numbers (lines (drop at file)) ≡ read_entries reports file

  pub came-none : Came before 0 1 0
  unfolding read_entries
  came-none = record { numbers = []; wrote = wrote_none before 0; left = refl }

  behind-good : (ns : List ℕ) (e : Entry) → is_broken e ≡ false → behind ns e ≡ some (ns ++ numbers_of e)
  behind-good ns (Number n) h = refl
  behind-good ns Comment h = ap some (sym (append-nil ns))
  behind-good ns Broken h = not-both refl h

  behind-bad : (ns : List ℕ) (e : Entry) → is_broken e ≡ true → behind ns e ≡ none
  behind-bad ns (Number n) h = not-both h refl
  behind-bad ns Comment h = not-both h refl
  behind-bad ns Broken h = refl

  module _ {after : List ℕ} {at line count : ℕ} (w : Came after at line count) where
    module _ (stop next : ℕ) (t : TextAt file at stop next) where
      pub came-next : (e : Entry) → e ≡ entry_in reports (part file at stop) → is_broken e ≡ false → {after' : List ℕ} {count' : ℕ} → Wrote after count (numbers_of e) after' count' → Came after' next (line + 1) count'
      unfolding read_lines
      came-next e q h k = record {
        numbers = w.numbers ++ numbers_of e;
        wrote = wrote_then w.wrote k;
        left =
            let good-line : entry_line reports w.numbers (part file at stop) ≡ some (w.numbers ++ numbers_of e) = ap (behind w.numbers) (sym q) ∙ behind-good w.numbers e h in
            let step : read_lines (entry_line reports) some line w.numbers (lines (drop at file)) ≡ read_lines (entry_line reports) some (suc line) (w.numbers ++ numbers_of e) (lines (drop next file)) = rw (t.reads, good-line) in
            rw (add-one line) (sym step ∙ w.left);
      }

      pub came-bad : (e : Entry) → e ≡ entry_in reports (part file at stop) → is_broken e ≡ true → Folds reports file before (Err line) after
      unfolding read_lines
      came-bad e q h =
          let bad-line : entry_line reports w.numbers (part file at stop) ≡ none = ap (behind w.numbers) (sym q) ∙ behind-bad w.numbers e h in
          let bad : read_lines (entry_line reports) some line w.numbers (lines (drop at file)) ≡ bad_line line = rw (t.reads, bad-line) in
          let whole : read_entries reports file ≡ bad_line line = sym w.left ∙ bad in
          record {
            answer = sym (ap count_in whole);
            sized = wrote-length w.wrote;
            stored = λ ns g. let z : bad_line line ≡ good ns = sym whole ∙ g in let y : ◌≡◌ {A = ℕ} 0 1 = cc in absurd (omega arith);
          }

    pub came-end : lines (drop at file) ≡ [] → Folds reports file before (Ok count) after
    unfolding read_lines
    came-end e =
        let last : read_lines (entry_line reports) some line w.numbers (lines (drop at file)) ≡ good w.numbers = rw e in
        let whole : read_entries reports file ≡ good w.numbers = sym w.left ∙ last in
        let many : count ≡ length w.numbers = w.wrote.counted ∙ omega arith in
        record {
          answer = ap good many ∙ sym (ap count_in whole);
          sized = wrote-length w.wrote;
          stored = λ ns g. let z : good w.numbers ≡ good ns = sym whole ∙ g in let y : w.numbers ≡ ns = cc in rw (← y, ← many) w.wrote;
        }
