-- `docket::row_of` meets its contract: the table's rows one by one, each by what the match has told.
use Rattle.std.proofs.Common.{◌≡◌, sym, ap, rules}
use Rattle.paper.specs.Docket.{row}
use Rattle.docket.specs.Reading.{refusal_of}
use Rattle.docket.specs.declared.Refusal.{Refusal}
use Rattle.docket.proofs.row_of.Goals as goal

at_row : {r x : Refusal} → r ≡ x → row (refusal_of x) ≡ row (refusal_of r)
at_row e = sym (ap (λ y. row (refusal_of y)) e)

pub returns-in-Size : goal.returns-in-Size
returns-in-Size c = at_row c.in-Size.is

pub returns-in-Rail : goal.returns-in-Rail
returns-in-Rail c = at_row c.in-Rail.is

pub returns-in-Apart : goal.returns-in-Apart
returns-in-Apart c = at_row c.in-Apart.is

pub returns-in-Crowd : goal.returns-in-Crowd
returns-in-Crowd c = at_row c.in-Crowd.is

pub returns-in-Start : goal.returns-in-Start
returns-in-Start c = at_row c.in-Start.is

pub returns-in-Goal : goal.returns-in-Goal
returns-in-Goal c = at_row c.in-Goal.is

pub returns-in-Stopped : goal.returns-in-Stopped
returns-in-Stopped c = at_row c.in-Stopped.is

pub returns-in-Room : goal.returns-in-Room
returns-in-Room c = at_row c.in-Room.is

pub returns-in-Illegal : goal.returns-in-Illegal
returns-in-Illegal c = at_row c.in-Illegal.is

pub returns-in-Missed : goal.returns-in-Missed
returns-in-Missed c = at_row c.in-Missed.is

pub returns-in-Mismarked : goal.returns-in-Mismarked
returns-in-Mismarked c = at_row c.in-Mismarked.is

pub returns-in-Unknown : goal.returns-in-Unknown
returns-in-Unknown c = at_row c.in-Unknown.is

pub returns-in-Early : goal.returns-in-Early
returns-in-Early c = at_row c.in-Early.is

pub returns-in-BadMap : goal.returns-in-BadMap
returns-in-BadMap c = at_row c.in-BadMap.is

pub returns-in-BadScenario : goal.returns-in-BadScenario
returns-in-BadScenario c = at_row c.in-BadScenario.is

pub returns-in-BadSurvey : goal.returns-in-BadSurvey
returns-in-BadSurvey c = at_row c.in-BadSurvey.is

pub returns-in-Ended : goal.returns-in-Ended
returns-in-Ended c = at_row c.in-Ended.is

pub returns-in-LongPiece : goal.returns-in-LongPiece
returns-in-LongPiece c = at_row c.in-LongPiece.is

pub returns-in-Disagrees : goal.returns-in-Disagrees
returns-in-Disagrees c = at_row c.in-Disagrees.is

pub returns-in-Edition : goal.returns-in-Edition
returns-in-Edition c = at_row c.in-Edition.is

pub returns-in-Begun : goal.returns-in-Begun
returns-in-Begun c = at_row c.in-Begun.is

pub returns-in-BadPlan : goal.returns-in-BadPlan
returns-in-BadPlan c = at_row c.in-BadPlan.is

pub returns-in-BadReports : goal.returns-in-BadReports
returns-in-BadReports c = at_row c.in-BadReports.is
