-- A report's answer reads as the paper's in one way only, since it can be read back.
use mathlib.Core.Path.{◌≡◌, refl, ap}
use Rattle.paper.specs.Answers.{Report, accept, already, refuse}
use Rattle.paper.proofs.Determined.{Telling, telling-by}
use Rattle.docket.proofs.Telling.{refusal_for, refusal-back}
use Rattle.marks.specs.Reading.{report_of}
use Rattle.marks.specs.declared.Reported.{Reported}
use Rattle.marks.specs.declared.Reported.TheVariants.{Accepted, Already, Refused}

pub reports-told-apart : Telling report_of
reports-told-apart = telling-by report_of back had-back
  where
    back : Report → Reported
    back accept = Accepted
    back already = Already
    back (refuse r) = Refused (refusal_for r)

    had-back : (a : Reported) → back (report_of a) ≡ a
    had-back Accepted = refl
    had-back Already = refl
    had-back (Refused r) = ap Refused (refusal-back r)
