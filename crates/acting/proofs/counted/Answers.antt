-- `acting::counted` meets its contract. Each case carries the tally that goes with the answer.
use Rattle.std.proofs.Common.{sym, refl, rules}
use Rattle.acting.proofs.counted.Goals as goal

pub tally_filled-requires : goal.tally_filled-requires
tally_filled-requires c = let p = c.requires in (p.0, rw c.in-Filled.is at p.2, p.1)

pub returns-in-Empty : goal.returns-in-Empty
returns-in-Empty c = λ t. rw c.in-Empty.is refl

pub returns-in-Filled : goal.returns-in-Filled
returns-in-Filled c = λ t. let f = c.tally_filled.ensures in rw c.in-Filled.is (_, refl, f.0, f.1 t)

pub returns-in-Failed : goal.returns-in-Failed
returns-in-Failed c = λ t. rw c.in-Failed.is refl
