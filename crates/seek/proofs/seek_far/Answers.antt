-- Each ring is gone through, and the next one is found from it. A yard has not more rings than bays.
use Rattle.std.proofs.Common.{replicate, refl, sym, ◌∙◌, arith}
use Rattle.std.proofs.Math.Seq.{take-suc-set}
use Rattle.words.specs.Sets.{span}
use Rattle.near.proofs.Seeking.{sought-first, sought-found, sought-end, sought-more, sought-next, fitting-not, ring-low, swap-none, swap-some}
use Rattle.seek.proofs.Seeking.{sought-far, scouted-first, search-first, search-dry, search-more, foresee-asks}
use Rattle.seek.proofs.seek_far.Goals as goal
use Rattle.seek.proofs.seek_far.Goals.{then-is_junction+in_default, else-is_junction}

pub nearest-init : goal.nearest-init
nearest-init c =
    let p = c.requires.ready in
    let hu = p.placed.inside c.args.r.0 c.requires.far_asks.asks.first in
    record {
      some_left = omega arith;
      most = omega (arith, hu);
      behind = omega arith;
      rounds = λ t. search-first t p.most _ hu _ _ _ c.alone.ensures c.alone-2.ensures (take-suc-set (replicate span 0) 0 _ (omega arith));
      scouted = scouted-first _ _ _ _ _ _ _ c.nobody-scouts.ensures;
      sought = λ t b. sought-first t _ _ _;
      none_found = refl;
    }

pub loop-v-init : goal.loop-v-init
loop-v-init c =
    let p = c.requires.ready in
    let z = c.requires.far_asks in
    let hu = p.placed.inside c.args.r.0 z.asks.first in
    let n = c.nearest.invariant in
    let l = c.first_far-v.ensures in
    record {
      upto = l.upto;
      hit = l.hit;
      sought = λ t b. sought-far t _ _ _ p.most hu _ _ _ (n.rounds t).ringing (z.missed t b) _ (n.sought t b) l;
      scouted = n.scouted;
      none_found = n.none_found;
    }

pub is_junction-requires : goal.is_junction-requires
is_junction-requires c =
    let p = c.requires.ready in
    let a = c.args in
    let hu = p.placed.inside a.r.0 c.requires.far_asks.asks.first in
    let h = c.loop-v-test.true in
    let i = sym ((c.nearest.invariant.rounds p.tabled).ringing _ h) ∙ c.loop-v.invariant.hit h in
    (p.most, ring-low p.tabled a.r.0 a.s.0 a.placement.now p.most hu _ _ i, p.table_size)

pub trace-requires : goal.trace-requires
trace-requires c =
    let n = c.nearest.invariant in
    record { before_size = omega arith; inside = c.loop-v-test.true; room = omega arith; low = (n.rounds c.requires.ready.tabled).queue.low }

pub try_junction-turn-requires : goal.try_junction-turn-requires
try_junction-turn-requires c =
    let p = c.requires.ready in
    let h = c.loop-v-test.true in
    let loop = c.loop-v.invariant in
    record {
      ready = p;
      foresee_asks = foresee-asks p _ c.requires.far_asks.asks _ c.nearest.invariant.rounds h (loop.hit h) _ (omega arith) (omega arith) c.trace.ensures _ _ (omega arith) loop.scouted;
    }

pub loop-v-preserved : goal.loop-v-preserved
loop-v-preserved c =
    let p = c.requires.ready in
    let hu = p.placed.inside c.args.r.0 c.requires.far_asks.asks.first in
    let loop = c.loop-v.invariant in
    let l = c.next_from-v.ensures in
    let j = c.is_junction.ensures in
    elim c.if-is_junction.branch [
      | then-is_junction+in_default q ↦ record {
        upto = l.upto;
        hit = l.hit;
        sought = λ t b.
            let w = q.try_junction-turn.ensures.tried t b (sym (j t) ∙ q.if-is_junction.true) in
            sought-more t _ _ _ p.most hu _ _ (c.nearest.invariant.rounds t).ringing _ _ (loop.sought t b) (w.fails q.in_default.is) l;
        scouted = rw (q.room-is, q.scouts-is) q.try_junction-turn.ensures.scouted;
        none_found = loop.none_found;
      }
      | else-is_junction q ↦ record {
        upto = l.upto;
        hit = l.hit;
        sought = λ t b.
            sought-more t _ _ _ p.most hu _ _ (c.nearest.invariant.rounds t).ringing _ _ (loop.sought t b) (fitting-not _ _ _ _ _ (sym (j t) ∙ q.if-is_junction.false)) l;
        scouted = rw (q.room-is, q.scouts-is) loop.scouted;
        none_found = loop.none_found;
      }
    ]

pub next_ring-count-requires : goal.next_ring-count-requires
next_ring-count-requires c =
    let p = c.requires.ready in
    let n = c.nearest.invariant in
    record {
      bays_fit = p.most;
      table_size = p.table_size;
      some_left = n.some_left;
      most = n.most;
      seen_size = omega arith;
      ring_size = omega arith;
      room = omega arith;
      before_size = omega arith;
      standing = (_, _, (n.rounds p.tabled).queue);
    }

pub nearest-preserved : goal.nearest-preserved
nearest-preserved c =
    let p = c.requires.ready in
    let hu = p.placed.inside c.args.r.0 c.requires.far_asks.asks.first in
    let n = c.nearest.invariant in
    let loop = c.loop-v.invariant in
    let w = c.next_ring-count in
    let g = w.ensures.passed _ _ (n.rounds p.tabled).queue in
    record {
      some_left = omega (arith, g.more);
      most = g.most;
      behind = omega arith;
      rounds = λ t. search-more t p.most _ hu _ (n.rounds t) w.ensures n.some_left (omega arith) (omega (arith, g.more));
      scouted = loop.scouted;
      sought = λ t b. sought-next t _ _ _ p.most hu _ _ (n.rounds t).ringing _ (loop.sought t b) c.loop-v-test.false;
      none_found = loop.none_found;
    }

pub returns-in-Some : goal.returns-in-Some
returns-in-Some c =
    let turn = c.try_junction-turn.ensures in
    let loop = c.loop-v.invariant in
    let h = c.loop-v-test.true in
    record {
      few = rw c.in-Some.is at turn.few;
      swaps = λ t b.
          let i = sym ((c.nearest.invariant.rounds t).ringing _ h) ∙ loop.hit h in
          let w = turn.tried t b (sym (c.is_junction.ensures t) ∙ c.if-is_junction.true) in
          swap-some _ _ _ _ (sought-found t _ _ _ _ _ (loop.sought t b) i (w.fits _ c.in-Some.is)) (w.logged _ c.in-Some.is);
    }

pub returns-then-count-end : goal.returns-then-count-end
returns-then-count-end c =
    let p = c.requires.ready in
    let hu = p.placed.inside c.args.r.0 c.requires.far_asks.asks.first in
    let n = c.nearest.invariant in
    let w = c.next_ring-count in
    rw c.loop-v.invariant.none_found (record {
      few = tt;
      swaps = λ t b.
          let left = sought-next t _ _ _ p.most hu _ _ (n.rounds t).ringing _ (c.loop-v.invariant.sought t b) c.loop-v-test.false in
          let dry = search-dry t p.most _ hu _ (n.rounds t) w.ensures n.some_left (omega arith) c.if-count-end.true in
          swap-none _ _ _ _ (sought-end t _ _ _ _ dry left);
    })
