-- Any two answers that the statements of reading and writing allow are equal, and so is what is left in the lent list.
use mathlib.Core.Path.{sym, ◌∙◌}
use mathlib.Core.List.{List}
use Prim.Native.Nat.{ℕ}
use lib.ListN.{length}
use Rattle.paper.specs.Yard.{Bay}
use Rattle.paper.specs.Text.{Text}
use Rattle.paper.proofs.Determined.{Determined, determined-by}
use Rattle.docket.specs.Reading.{verdict_of}
use Rattle.docket.proofs.Telling.{verdict-tells}
use Rattle.surveying.specs.Says.{ReadSays, WriteSays, write_answer, write_left}

pub read-determined : (file : Text) (before : List ℕ) → Determined (ReadSays file before)
read-determined file before a a' l l' s t =
    let bays = s.bays ∙ sym t.bays in
    let verdicts = verdict-tells a.verdict a'.verdict (s.answer ∙ sym t.answer) in
    (λ i. record { bays = bays i; verdict = verdicts i }, s.left ∙ sym t.left)

pub write-determined : (n : ℕ) (ends : List Bay) (before : List ℕ) → Determined (WriteSays n ends before)
write-determined n ends before a a' l l' s t =
    determined-by verdict_of verdict-tells (write_answer n ends (length before)) (write_left n ends before)
    a a' l l' (s.answer, s.left) (t.answer, t.left)
