-- What is read lies before what is written.
use Rattle.std.proofs.Common.{ap, ◌∙◌, arith}
use Rattle.undo.specs.Turning.{turned}
use Rattle.undo.proofs.Undoing.{undoing-more, undoing-all}
use Rattle.undo.proofs.undo.Goals as goal

pub loop-j-preserved : goal.loop-j-preserved
loop-j-preserved c =
    let a = c.args in
    let value = c.turn.ensures ∙ ap (turned a.l.0 a.m.0) c.stored_at-number.ensures in
    λ xs s h e. rw (c.store.ensures, value) (undoing-more _ _ _ _ _ _ _ xs c.loop-j.j s h e (omega arith) (omega arith) (c.loop-j.invariant xs s h e))

pub returns : goal.returns
returns c = λ xs s h e. undoing-all _ _ _ _ _ _ xs _ e (omega arith) (c.loop-j.invariant xs s h e)
