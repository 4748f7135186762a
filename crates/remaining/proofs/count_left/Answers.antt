use Rattle.std.proofs.Common.{◌≡◌, ◌≤◌, length, take, refl, ◌∙◌, ap, arith, count_by}
use lib.Dec.{eqb}
use lib.Seq.{take-length}
use Rattle.remaining.proofs.Counting.{one_at-most, counted-on}
use Rattle.remaining.proofs.count_left.Goals as goal

pub loop-byte-init : goal.loop-byte-init
loop-byte-init c = record { fits = omega arith; counted = refl }

pub overflow_add-n : goal.overflow_add-n
overflow_add-n c = omega (arith, c.loop-byte.invariant.fits, c.loop-byte-test.true, one_at-most _ c.from-n.result c.from-n.ensures)

pub loop-byte-preserved : goal.loop-byte-preserved
loop-byte-preserved c = counted-on c.args.gone.now _ _ _ c.loop-byte-test.true c.from-n.ensures c.loop-byte.invariant

pub returns : goal.returns
returns c =
    let end : c.loop-byte.byte-index ≡ length c.args.gone.now = omega arith in
    c.loop-byte.invariant.counted ∙ ap (λ k. count_by (λ byte. eqb byte 0) (take k c.args.gone.now)) end ∙ ap (count_by (λ byte. eqb byte 0)) (take-length c.args.gone.now)
