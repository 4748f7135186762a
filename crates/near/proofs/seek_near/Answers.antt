-- The bays of a ring are the yard's, and the carrier's own bay is reached from each of them.
use Rattle.std.proofs.Common.{refl, sym, ◌∙◌, arith}
use Rattle.paper.specs.Basics.{◌or◌}
use Rattle.words.specs.Sets.{words}
use Rattle.words.proofs.Sets.{zeros, mem-zeros}
use Rattle.rings.proofs.Searching.{widening-first, widening-more, widening-rows}
use Rattle.trial.proofs.Copying.{free_shown}
use Rattle.near.proofs.Seeking.{sought-first, sought-found, sought-start, sought-more, sought-next, reached-from, ring-low, near_of, sought-nowhere, swap-none, swap-some, near-found, near-farther, near-nowhere}
use Rattle.near.proofs.seek_near.Goals as goal

pub nearest-init : goal.nearest-init
nearest-init c =
    let hu = c.requires.ready.placed.inside c.args.r.0 c.requires.near_asks.first in
    record {
      widening = λ t h. widening-first (free_shown t) _ (zeros words) hu (λ b l. refl) (λ b. c.alone.ensures b ∙ (unfold ◌or◌ in rw (mem-zeros words b))) c.alone-2.ensures;
      sought = λ t b. sought-first t _ _ _;
      none_found = refl;
    }

pub loop-v-init : goal.loop-v-init
loop-v-init c =
    let p = c.requires.ready in
    let hu = p.placed.inside c.args.r.0 c.requires.near_asks.first in
    let n = c.nearest.invariant in
    let l = c.next_from-v.ensures in
    record {
      upto = l.upto;
      hit = l.hit;
      sought = λ t b. sought-start t _ _ _ p.most hu _ _ (n.widening t (omega arith)).ringing _ (n.sought t b) l;
      none_found = n.none_found;
    }

pub try_junction-tried-requires : goal.try_junction-tried-requires
try_junction-tried-requires c =
    let p = c.requires.ready in
    let z = c.requires.near_asks in
    let hu = p.placed.inside c.args.r.0 z.first in
    let h = c.loop-v-test.true in
    let i = sym ((c.nearest.invariant.widening p.tabled (omega arith)).ringing _ h) ∙ c.loop-v.invariant.hit h in
    record {
      ready = p;
      trial_asks = record {
        first = z.first;
        second = z.second;
        differ = z.differ;
        inside = ring-low p.tabled c.args.r.0 c.args.s.0 c.args.placement.now p.most hu _ _ i;
      };
    }

pub loop-v-preserved : goal.loop-v-preserved
loop-v-preserved c =
    let p = c.requires.ready in
    let a = c.args in
    let hu = p.placed.inside a.r.0 c.requires.near_asks.first in
    let h = c.loop-v-test.true in
    let l = c.next_from-v-in-loop-v.ensures in
    let loop = c.loop-v.invariant in
    record {
      upto = l.upto;
      hit = l.hit;
      sought = λ t b.
          let same = (c.nearest.invariant.widening t (omega arith)).ringing in
          let near = near_of b (reached-from t a.r.0 a.s.0 a.placement.now p.most hu _ _ (sym (same _ h) ∙ loop.hit h)) in
          sought-more t _ _ _ p.most hu _ _ same _ _ (loop.sought t b) ((c.try_junction-tried.ensures.tried t near).fails c.in_default.is) l;
      none_found = loop.none_found;
    }

pub widen-requires : goal.widen-requires
widen-requires c =
    let p = c.requires.ready in
    let hu = p.placed.inside c.args.r.0 c.requires.near_asks.first in
    (omega arith, omega arith, widening-rows (free_shown p.tabled) _ p.most hu p.table_size (c.nearest.invariant.widening p.tabled (omega arith)))

pub nearest-preserved : goal.nearest-preserved
nearest-preserved c =
    let p = c.requires.ready in
    let hu = p.placed.inside c.args.r.0 c.requires.near_asks.first in
    let n = c.nearest.invariant in
    record {
      widening = λ t k. widening-more (free_shown t) _ p.most hu (omega (arith, k, c.reach-last.ensures)) (n.widening t (omega arith)) c.widen.ensures;
      sought = λ t b. sought-next t _ _ _ p.most hu _ _ (n.widening t (omega arith)).ringing _ (c.loop-v.invariant.sought t b) c.loop-v-test.false;
      none_found = c.loop-v.invariant.none_found;
    }

pub returns-then-v-ge-SPAN : goal.returns-then-v-ge-SPAN
returns-then-v-ge-SPAN c =
    let p = c.requires.ready in
    let hu = p.placed.inside c.args.r.0 c.requires.near_asks.first in
    let n = c.nearest.invariant in
    near-nowhere (λ t b. swap-none _ _ _ _ (sought-nowhere t _ _ _ p.most hu _ _ (n.widening t (omega arith)).ringing _ (n.sought t b) c.next_from-v.ensures c.if-v-ge-SPAN.true))

pub returns-in-Some : goal.returns-in-Some
returns-in-Some c =
    let p = c.requires.ready in
    let a = c.args in
    let hu = p.placed.inside a.r.0 c.requires.near_asks.first in
    let h = c.loop-v-test.true in
    let try-junction = c.try_junction-tried in
    let loop = c.loop-v.invariant in
    near-found (rw c.in-Some.is at try-junction.ensures.few)
    (λ t b.
    let i = sym ((c.nearest.invariant.widening t (omega arith)).ringing _ h) ∙ loop.hit h in
    let near = near_of b (reached-from t a.r.0 a.s.0 a.placement.now p.most hu _ _ i) in
    let w = try-junction.ensures.tried t near in
    swap-some _ _ _ _ (sought-found t _ _ _ _ _ (loop.sought t b) i (w.fits _ c.in-Some.is)) (w.logged _ c.in-Some.is))

pub returns-after-nearest : goal.returns-after-nearest
returns-after-nearest c =
    let n = c.nearest.invariant in
    rw n.none_found (near-farther _ (λ t b i x h y. (n.sought t b).rings-before i x (omega arith) y))
