use Rattle.std.proofs.Common.{length, not, sym, ap, arith}
use borrow.Author.Tests.{eq-eqb, ne_eqb}
use Rattle.paper.specs.Basics.{up_to}
use Rattle.paper.specs.Docket.{not_home}
use Rattle.paper.proofs.Members.{count-high, none-find, find-exactly}
use Rattle.replay.proofs.lowest_away.Goals as goal

pub returns-then-at-c : goal.returns-then-at-c
unfolding not_home
returns-then-at-c c =
    let l = c.loop-c in
    sym ((find-exactly _ _ l.c).1 (c.loop-c-test.true, ap not (ne_eqb _ _ c.if-at-c.true), λ k h. ap not (eq-eqb _ _ (l.invariant k h))))

pub returns : goal.returns
unfolding not_home
returns c =
    let n = length c.args.goal.now in
    sym (none-find _ (up_to n) (λ k i. let h = count-high 0 n k i in ap not (eq-eqb _ _ (c.loop-c.invariant k (omega arith)))))
