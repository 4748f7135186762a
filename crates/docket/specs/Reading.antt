-- How the code's crossings and refusals read as the paper's.
-- Assumes nothing.
use Rattle.std.specs.Prelude.{Bool, true, false, ℕ, Err, Ok}
use Rattle.std.proofs.Math.Option.{Option, none, some}
use Rattle.paper.specs.Yard.{Crossing, crossing}
use Rattle.paper.specs.Docket as paper
use Rattle.docket.specs.declared.Crossing.{Crossing as Held}
use Rattle.docket.specs.declared.Refusal.{Refusal}
use Rattle.docket.specs.Verdict.{Verdict}
use Rattle.docket.specs.declared.Refusal.TheVariants as code
use Rattle.docket.specs.declared.Row.{Row}
use Rattle.docket.specs.declared.Row.TheVariants.{Plain, Carrying}

abbrev pub crossing_of : Held → Crossing
crossing_of x = crossing x.carrier.0 x.from.0 x.to.0

abbrev pub refusal_of : Refusal → paper.Refusal
refusal_of code.Size = paper.size
refusal_of (code.Rail i) = paper.rail i
refusal_of (code.Apart b) = paper.apart b.0
refusal_of code.Crowd = paper.crowd
refusal_of (code.Start c) = paper.start c.0
refusal_of (code.Goal c) = paper.goal c.0
refusal_of (code.Stopped c) = paper.stopped c.0
refusal_of (code.Room l) = paper.room l
refusal_of (code.Illegal i) = paper.illegal i
refusal_of (code.Missed c) = paper.missed c.0
refusal_of code.Mismarked = paper.mismarked
refusal_of code.Unknown = paper.unknown
refusal_of (code.Early e) = paper.early e
refusal_of (code.BadMap l) = paper.bad_map l
refusal_of (code.BadScenario l) = paper.bad_scenario l
refusal_of (code.BadSurvey l) = paper.bad_survey l
refusal_of code.Ended = paper.ended
refusal_of code.LongPiece = paper.long_piece
refusal_of code.Disagrees = paper.disagrees
refusal_of code.Edition = paper.edition
refusal_of code.Begun = paper.begun
refusal_of (code.BadPlan l) = paper.bad_plan l
refusal_of (code.BadReports l) = paper.bad_reports l

-- a row is its number, and what is carried
abbrev pub row_of : Row → ℕ × Option ℕ
row_of (Plain n) = (n, none)
row_of (Carrying n v) = (n, some v)

abbrev pub verdict_of : Verdict → paper.Verdict
verdict_of (Ok n) = paper.granted n
verdict_of (Err r) = paper.denied (refusal_of r)

-- there is an answer
abbrev pub is_some : {A : Type 0} → Option A → Bool
is_some none = false
is_some (some a) = true
