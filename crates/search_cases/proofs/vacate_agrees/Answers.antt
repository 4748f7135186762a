-- Past 4 and 5 the carriers stand at different bays of the yard.
use Rattle.std.proofs.Common.{arith, replicate}
use Rattle.search_cases.proofs.Opened.{ready}
use Rattle.search_cases.proofs.vacate_agrees.Goals as goal

pub vacated-requires : goal.vacated-requires
vacated-requires c =
    ready c.«open».ensures _ c.in-Ok.is (replicate 256 0) c.if-n-gt-SPAN.false c.if-n-gt-SPAN.false (omega arith) c.requires
