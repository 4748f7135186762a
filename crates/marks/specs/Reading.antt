-- How the code's answers read as the paper's, and what a report answers from refusal 12 on.
-- Assumes nothing.
use Rattle.std.specs.Prelude.{List, ℕ, if◌then◌else◌, None, Some}
use Rattle.std.proofs.Math.Option.{Option, none, some}
use Rattle.paper.specs.Basics.{if_some◌then◌else◌}
use Rattle.paper.specs.Yard.{Crossing}
use Rattle.paper.specs.Dependence.{is_done}
use Rattle.paper.specs.Docket.{no_12, no_13}
use Rattle.paper.specs.Answers.{Report, accept, already, refuse}
use Rattle.docket.specs.Reading.{refusal_of}
use Rattle.marks.specs.Earlier.{Earlier}
use Rattle.marks.specs.declared.Reported.{Reported}
use Rattle.marks.specs.declared.Reported.TheVariants.{Accepted, Already, Refused}

abbrev pub earlier_of : Earlier → Option ℕ
earlier_of (Some e) = some e
earlier_of None = none

abbrev pub report_of : Reported → Report
report_of Accepted = accept
report_of Already = already
report_of (Refused r) = refuse (refusal_of r)

-- the paper's `tell` where 11 has passed
unfoldable pub told_in_order : List Crossing → List ℕ → ℕ → Report
told_in_order xs marks name =
    let last = if_some no_13 xs marks name then refuse else accept in
    let known = if is_done marks name then already else last in
    if_some no_12 xs name then refuse else known
