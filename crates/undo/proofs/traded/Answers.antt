-- The three cases of trading.
use Rattle.std.proofs.Common.{eq-eqb, ne_eqb}
use Rattle.paper.specs.Procedure.{trade}
use Rattle.undo.proofs.traded.Goals as goal

pub returns-then-c-l : goal.returns-then-c-l
unfolding trade
returns-then-c-l c = rw (eq-eqb _ _ c.if-c-l.true)

pub returns-then-c-m : goal.returns-then-c-m
unfolding trade
returns-then-c-m c = rw (ne_eqb _ _ c.if-c-l.false, eq-eqb _ _ c.if-c-m.true)

pub returns : goal.returns
unfolding trade
returns c = rw (ne_eqb _ _ c.if-c-l.false, ne_eqb _ _ c.if-c-m.false)
