use Rattle.std.proofs.Common.{◌∙◌, refl, arith}
use Rattle.first_bad.proofs.Firsts.{bad-here, bad-later, bad-nowhere, finds-at, finds-none}
use Rattle.first_bad.proofs.Places.{used-none, used-more, outside-bad, used-bad, unused-good}
use Rattle.first_bad.proofs.bad_place.Goals as goal
use Rattle.first_bad.proofs.bad_place.Goals.{then-n-b-via-then-n-b, then-n-b-via-else-n-b+then-used-b-eq1}

pub loop-c-init : goal.loop-c-init
loop-c-init c = record { so_far = refl; used = used-none _ }

pub returns-then-n-b : goal.returns-then-n-b
returns-then-n-b c =
    let l = c.loop-c in
    finds-at _ _ _ (l.invariant.so_far ∙ bad-here _ _ _ l.c c.loop-c-test.true (elim c.then-n-b.branch [
      | then-n-b-via-then-n-b w ↦ outside-bad _ _ l.c _ c.requires l.invariant.used w.if-n-b.true
      | then-n-b-via-else-n-b+then-used-b-eq1 w ↦ used-bad _ _ l.c _ c.requires l.invariant.used w.if-n-b.false w.if-used-b-eq1.true
    ])) c.loop-c-test.true

pub loop-c-preserved : goal.loop-c-preserved
loop-c-preserved c =
    let l = c.loop-c in record {
      so_far = l.invariant.so_far ∙ bad-later _ _ _ l.c c.loop-c-test.true (unused-good _ _ l.c _ c.requires l.invariant.used c.if-n-b.false c.if-used-b-eq1.false);
      used = used-more _ l.c _ c.loop-c-test.true (omega arith) l.invariant.used;
    }

pub returns : goal.returns
returns c = finds-none _ _ (c.loop-c.invariant.so_far ∙ bad-nowhere _ 0 _ c.loop-c.c c.loop-c-test.false)
