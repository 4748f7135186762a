-- Each way out is one law of reversing's proofs/Saying.
use Rattle.reversing.proofs.Saying.{too_long, no_room, written}
use Rattle.reverse_list.proofs.reverse.Goals as goal

pub returns-then-list-gt-CROSSINGS : goal.returns-then-list-gt-CROSSINGS
returns-then-list-gt-CROSSINGS c = too_long _ _ c.if-list-gt-CROSSINGS.true

pub returns-then-out-list : goal.returns-then-out-list
returns-then-out-list c = no_room _ _ c.if-list-gt-CROSSINGS.false c.if-out-list.true

pub returns : goal.returns
returns c = written _ _ c.if-list-gt-CROSSINGS.false _ c.if-out-list.false c.write.ensures
