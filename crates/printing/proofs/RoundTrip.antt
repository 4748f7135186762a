-- What `printing::plan` writes reads back as the plan it was lent: its promise puts the print into the bytes, and the print reads
-- back.
use mathlib.Core.Path.{◌≡◌, ◌∙◌, ap}
use mathlib.Core.List.{List}
use mathlib.Core.Option.{some}
use Prim.Native.Nat.{ℕ, ◌≤◌}
use lib.ListN.{length, take}
use borrow.Author.Tests.{le-leb}
use Rattle.paper.specs.Yard.{crossings, most_crossings}
use Rattle.paper.specs.Text.{lines}
use Rattle.paper.specs.Print.{print_plan, printed, read_plan}
use Rattle.laws.proofs.Printing.{print-back}
use Rattle.stores.specs.Writing.{Wrote}
use Rattle.stores.proofs.Stores.{wrote-stands}
use Rattle.printing.specs.Parts.{handed}

handed-print : (plan : List ℕ) → length plan ≤ most_crossings → printed (handed plan) ≡ print_plan (crossings plan)
unfolding handed printed
handed-print plan h = rw (le-leb (length plan) most_crossings h)

pub reads-back : (plan : List ℕ) {before after : List ℕ} {n : ℕ} → length plan ≤ most_crossings
    → Wrote before 0 (printed (handed plan)) after n → n ≤ length before → read_plan (lines (take n after)) ≡ some (crossings plan)
reads-back plan {before} {after} {n} h w fits =
    ap (λ t. read_plan (lines t)) (wrote-stands w fits ∙ handed-print plan h) ∙ print-back (crossings plan)
