use Rattle.std.proofs.Common.{sym, ◌∙◌, ap, arith}
use Rattle.sides.specs.Layout.{taken_of}
use Rattle.sides.proofs.Counted.{sides-read}
use Rattle.sides.proofs.Left.{left_end, left-bad, left-on}
use Rattle.sides.proofs.read.Goals as goal

pub loop-stop-init : goal.loop-stop-init
loop-stop-init c = record { within = omega arith; counted = omega arith; reads = sides-read c.args.file.now }

pub slice_bounds-take-count : goal.slice_bounds-take-count
slice_bounds-take-count c = let t = c.next_line.ensures.line _ _ c.in-Some.is in omega (arith, t.low, t.high)

pub slice_bounds-take-start : goal.slice_bounds-take-start
slice_bounds-take-start c = let t = c.next_line.ensures.line _ _ c.in-Some.is in omega (arith, t.low, t.high)

pub slice_bounds-take-end : goal.slice_bounds-take-end
slice_bounds-take-end c = let t = c.next_line.ensures.line _ _ c.in-Some.is in omega (arith, t.low, t.high)

pub returns-in_default-take : goal.returns-in_default-take
returns-in_default-take c =
    let loop = c.loop-stop in
    left-bad _ loop.n loop.due loop.at _ _ (c.next_line.ensures.line _ _ c.in-Some.is) (ap taken_of (sym c.in_default-take.is) ∙ c.take.ensures) ∙ loop.invariant.reads

pub loop-stop-smaller : goal.loop-stop-smaller
loop-stop-smaller c = let t = c.next_line.ensures.line _ _ c.in-Some.is in omega (arith, t.on, t.within)

pub loop-stop-preserved : goal.loop-stop-preserved
loop-stop-preserved c =
    let loop = c.loop-stop in
    let t = c.next_line.ensures.line _ _ c.in-Some.is in
    record {
      within = t.within;
      counted = omega (arith, t.on);
      reads = left-on _ loop.n loop.due loop.at _ _ t _ (ap taken_of (sym c.in-Some-take.is) ∙ c.take.ensures) ∙ loop.invariant.reads;
    }

pub returns : goal.returns
returns c = c.end.ensures ∙ left_end c.args.file.now _ _ c.loop-stop.at (c.next_line.ensures.none c.in_default.is) ∙ c.loop-stop.invariant.reads
