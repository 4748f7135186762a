use Rattle.std.proofs.Common.{length, sym, ◌∙◌, arith}
use Rattle.docket.specs.Reading.{crossing_of}
use Rattle.replay.proofs.Walking.{rows-kept, walked_on, walked-illegal, walked_end, legal-to-before, legal-to-end}
use Rattle.replay.proofs.play_legal.Goals as goal

pub returns-then-not-is_legal : goal.returns-then-not-is_legal
returns-then-not-is_legal c =
    let t = c.loop-i in
    λ Y p. rw (legal-to-before t.i (length c.args.plan.now) c.loop-i-test.true)
    (walked-illegal Y _ _ _ _ t.at t.occupied t.i (t.invariant.walked Y p) c.loop-i-test.true (crossing_of c.crossing_at-x.result) c.crossing_at-x.ensures
    (sym (c.is_legal.ensures.right Y (t.invariant.walked Y p).stands) ∙ c.if-not-is_legal.true) t.at)

-- what the test of the crossing at hand passes has its places in the placement, the table and the marks
pub loop-i-preserved : goal.loop-i-preserved
loop-i-preserved c =
    let t = c.loop-i in
    let x = crossing_of c.crossing_at-x.result in
    let passes = c.is_legal.ensures.fits c.if-not-is_legal.false in record {
      in_rows = rows-kept _ _ t.at x t.invariant.in_rows passes.0 passes.2;
      walked = λ Y p. walked_on Y _ _ _ _ t.at t.occupied t.i (t.invariant.walked Y p) c.loop-i-test.true x c.crossing_at-x.ensures
          (sym (c.is_legal.ensures.right Y (t.invariant.walked Y p).stands) ∙ c.if-not-is_legal.false) (omega (arith, passes.1)) (omega (arith, passes.2));
    }

pub returns : goal.returns
returns c =
    let t = c.loop-i in
    λ Y p. rw (legal-to-end (length c.args.plan.now) (length c.args.plan.now) (omega arith)) (walked_end Y _ _ _ _ t.at t.occupied t.i (t.invariant.walked Y p) c.loop-i-test.false)
