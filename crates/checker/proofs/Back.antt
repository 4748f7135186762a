-- The check's answer reads as the paper's in one way only, since it can be read back.
use Rattle.std.proofs.Common.{Err, Ok}
use mathlib.Core.Path.{◌≡◌, refl, ap}
use mathlib.Core.Option.{Option, none, some}
use Rattle.paper.specs.Docket as paper
use Rattle.paper.proofs.Determined.{Telling, telling-by}
use Rattle.docket.proofs.Telling.{refusal_for, refusal-back}
use Rattle.checker.specs.Reading.{checked_of}
use Rattle.checker.specs.Checked.{Checked}

pub checks-told-apart : Telling checked_of
checks-told-apart = telling-by checked_of back had-back
  where
    back : Option paper.Refusal → Checked
    back none = (Ok tt)
    back (some r) = Err (refusal_for r)

    had-back : (a : Checked) → back (checked_of a) ≡ a
    had-back (Ok tt) = refl
    had-back (Err r) = ap Err (refusal-back r)
