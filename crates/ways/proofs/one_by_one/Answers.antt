use Rattle.std.proofs.Common.{◌≡◌, ℕ, ◌+◌, ◌≤◌, length, refl, sym, ◌∙◌, arith}
use Rattle.std.proofs.Math.Seq.{take-suc-set}
use Rattle.std.proofs.Math.ListN.{length-set}
use Rattle.ways.proofs.Finding.{stage-first, stage-more, free-rowed, way-nowhere, way-found, way-here}
use Rattle.ways.proofs.Passing.{zeros-low}
use Rattle.ways.proofs.one_by_one.Goals as goal

pub returns-then-is_in : goal.returns-then-is_in
returns-then-is_in c =
    let p = c.requires in
    let a = c.args in
    record { found = λ s q w. way-here s p.lent.most _ p.inside p.unheld _ (sym c.is_in.ensures ∙ c.if-is_in.true) q w _ _ refl (take-suc-set a.path.now 0 a.x.0 (omega arith)) }

pub loop-d-init : goal.loop-d-init
loop-d-init c =
    let p = c.requires in
    let a = c.args in
    let miss = sym c.is_in.ensures ∙ c.if-is_in.false in
    let first = take-suc-set a.path.now 0 a.x.0 (omega arith) in
    (omega arith, omega arith, omega arith, λ s. stage-first s p.lent.most _ p.inside p.unheld _ _ _ _ _ _ zeros-low miss c.keep.ensures c.join.ensures first)

pub pass-count-requires : goal.pass-count-requires
pass-count-requires c =
    let p = c.requires in
    let l = c.loop-d in
    record {
      most = p.lent.most;
      table_size = p.lent.table_size;
      some_left = l.invariant.0;
      few = l.invariant.1;
      seen_size = omega arith;
      room = omega (arith, length-set {A = ℕ});
      before_size = omega arith;
      standing = (_, _, (l.invariant.3 p.lent.shown).queue);
    }

pub common-e-requires : goal.common-e-requires
common-e-requires c =
    let p = c.requires in
    let l = c.loop-d in
    let w = c.pass-count in
    let g = w.ensures.passes _ _ (l.invariant.3 p.lent.shown).queue in
    let room : c.args.n ≤ length w.new.met = omega (arith, length-set {A = ℕ}) in
    (omega arith, omega arith, free-rowed p.lent.shown p.lent.most _ p.inside p.unheld _ _ _ _ _ _ _ (l.invariant.3 p.lent.shown) _ _ _ _ g l.invariant.0 room (omega (arith, g.more)) _ _ _ c.keep-2.ensures c.minus.ensures p.lent.table_size)

pub trace-requires : goal.trace-requires
trace-requires c =
    let p = c.requires in
    let l = c.loop-d in
    let w = c.pass-count in
    let g = w.ensures.passes _ _ (l.invariant.3 p.lent.shown).queue in
    let room : c.args.n ≤ length w.new.met = omega (arith, length-set {A = ℕ}) in
    record { before_size = omega arith; inside = c.if-e-lt-SPAN.true; room = omega (arith, g.more, g.most); low = g.queue.low }

pub returns-then-e-lt-SPAN : goal.returns-then-e-lt-SPAN
returns-then-e-lt-SPAN c =
    let p = c.requires in
    let l = c.loop-d in
    let w = c.pass-count in
    let room : c.args.n ≤ length w.new.met = omega (arith, length-set {A = ℕ}) in
    let long : l.d + 2 ≡ l.d + 1 + 1 = omega arith in
    record {
      found = λ s q f.
          let g = w.ensures.passes _ _ (l.invariant.3 s).queue in
          rw long (way-found s p.lent.most _ p.inside p.unheld _ _ _ _ _ _ _ (l.invariant.3 s) _ _ _ _ g l.invariant.0 room (omega (arith, g.more)) _ _ _ c.keep-2.ensures c.minus.ensures _ c.common-e.ensures c.if-e-lt-SPAN.true q f _ _ refl c.trace.ensures);
    }

pub loop-d-preserved : goal.loop-d-preserved
loop-d-preserved c =
    let p = c.requires in
    let l = c.loop-d in
    let w = c.pass-count in
    let g = w.ensures.passes _ _ (l.invariant.3 p.lent.shown).queue in
    let room : c.args.n ≤ length w.new.met = omega (arith, length-set {A = ℕ}) in (
      omega (arith, g.more),
      g.most,
      omega arith,
      λ s.
          let h = w.ensures.passes _ _ (l.invariant.3 s).queue in
          stage-more s p.lent.most _ p.inside p.unheld _ _ _ _ _ _ _ (l.invariant.3 s) _ _ _ _ h l.invariant.0 room (omega (arith, h.more)) _ _ _ c.keep-2.ensures c.minus.ensures _ c.common-e.ensures c.if-e-lt-SPAN.false,
    )

pub returns-then-count-end : goal.returns-then-count-end
returns-then-count-end c =
    let p = c.requires in
    let l = c.loop-d in
    let w = c.pass-count in
    let room : c.args.n ≤ length w.new.met = omega (arith, length-set {A = ℕ}) in
    record {
      found = λ s q f.
          way-nowhere s p.lent.most _ p.inside p.unheld _ _ _ _ _ _ _ (l.invariant.3 s) _ _ _ _ (w.ensures.passes _ _ (l.invariant.3 s).queue) l.invariant.0 room c.if-count-end.true q f _;
    }
