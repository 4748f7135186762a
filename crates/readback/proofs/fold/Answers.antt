use Rattle.std.proofs.Common.{◌≡◌, sym, ◌∙◌, ◌+◌, ◌-◌, ◌≤◌, arith, length, rules}
use Rattle.stores.proofs.Stores.{wrote-length}
use Rattle.readback.proofs.Folding.{Came, came-none, came-next, came-bad, came-end, numbers-few}
use Rattle.readback.proofs.fold.Goals as goal

pub loop-stop-init : goal.loop-stop-init
loop-stop-init c = (search rules, (search rules, (search rules, (search rules, came-none c.args.reports c.args.file.now c.args.out.now))))

pub returns-in_default : goal.returns-in_default
returns-in_default c =
    came-end c.args.reports c.args.file.now c.args.out.now c.loop-stop.invariant.1.1.1.1 (c.next_line.ensures.none c.in_default.is)

pub slice_bounds-of_line-count : goal.slice_bounds-of_line-count
slice_bounds-of_line-count c = let t = c.next_line.ensures.line _ _ c.in-Some.is in omega (arith, t.low, t.high)

pub slice_bounds-of_line-start : goal.slice_bounds-of_line-start
slice_bounds-of_line-start c = let t = c.next_line.ensures.line _ _ c.in-Some.is in omega (arith, t.low, t.high)

pub slice_bounds-of_line-end : goal.slice_bounds-of_line-end
slice_bounds-of_line-end c = let t = c.next_line.ensures.line _ _ c.in-Some.is in omega (arith, t.low, t.high)

pub returns-then-is_broken : goal.returns-then-is_broken
returns-then-is_broken c =
    let loop = c.loop-stop in
    came-bad c.args.reports c.args.file.now c.args.out.now loop.invariant.1.1.1.1 _ _ (c.next_line.ensures.line _ _ c.in-Some.is) c.of_line-said.result c.of_line-said.ensures (sym c.is_broken.ensures ∙ c.if-is_broken.true)

pub keep-count-requires : goal.keep-count-requires
keep-count-requires c =
    let next-line = c.next_line in
    let loop = c.loop-stop in
    let t = next-line.ensures.line _ _ c.in-Some.is in omega (arith, t.on, t.within, loop.invariant.1.1.0)

pub loop-stop-smaller : goal.loop-stop-smaller
loop-stop-smaller c =
    let next-line = c.next_line in
    let t = next-line.ensures.line _ _ c.in-Some.is in omega (arith, t.on, t.within)

pub loop-stop-preserved : goal.loop-stop-preserved
loop-stop-preserved c =
    let of-line = c.of_line-said in
    let next-line = c.next_line in
    let loop = c.loop-stop in
    let t = next-line.ensures.line _ _ c.in-Some.is in (t.within, (omega (arith, t.on, loop.invariant.1.0), (omega (arith, t.on, c.keep-count.ensures.counted, numbers-few of-line.result, loop.invariant.1.1.0), (wrote-length c.keep-count.ensures ∙ loop.invariant.1.1.1.0, came-next c.args.reports c.args.file.now c.args.out.now loop.invariant.1.1.1.1 _ _ t of-line.result of-line.ensures (sym c.is_broken.ensures ∙ c.if-is_broken.false) c.keep-count.ensures))))
