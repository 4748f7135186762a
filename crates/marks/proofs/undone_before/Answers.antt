use Rattle.std.proofs.Common.{◌≡◌, ◌<◌, ◌+◌, sym, ◌∙◌, arith, ℕ}
use Rattle.std.proofs.Math.Option.{some}
use mathlib.Core.Bool.{Bool, true}
use Rattle.paper.specs.Basics.{find, up_to}
use Rattle.paper.specs.Yard.{crossings}
use Rattle.paper.proofs.Members.{Passed, passed-hit, passed-there, passed-nowhere}
use Rattle.docket.specs.Reading.{crossing_of}
use Rattle.marks.proofs.Telling.{waits-none}
use Rattle.marks.proofs.undone_before.Goals as goal

pub loop-e-init : goal.loop-e-init
loop-e-init c = waits-none (crossings c.args.plan.now) c.args.marks.now (crossing_of c.args.x) c.args.name c.done_to-done.result c.done_to-done.ensures.1

-- the place that is asked is the first that was not passed
there : (q : ℕ → Bool) (n e k : ℕ) → Passed q n n e → e < n → k ≡ e → q k ≡ true → some k ≡ find q (up_to n)
there q n e k p l z t = rw z (sym (passed-there q n e (e + 1) (passed-hit q n n e p l (rw z at t)) (omega arith) l))

pub returns-then-waits_for : goal.returns-then-waits_for
returns-then-waits_for c =
    let l = c.loop-e in
    there _ c.args.name l.e _ l.invariant c.loop-e-test.true (omega arith) (sym c.waits_for.ensures ∙ c.if-waits_for.true)

pub returns : goal.returns
returns c = let l = c.loop-e in sym (passed-nowhere _ _ c.args.name l.e l.invariant c.loop-e-test.false (omega arith))
