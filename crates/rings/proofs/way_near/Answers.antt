-- `rings::way_near` meets its contract. What is taken of the wanted bays in the ring where the search ended is the nearest; narrowed, the rings hold the bays on shortest paths to it, and the path outward is the paper's.
use Rattle.std.proofs.Common.{◌∙◌, refl, arith, rules}
use Rattle.rings.proofs.Reading.{row-rowed, nearest-nowhere, way-none, way-near, way-ended}
use Rattle.rings.proofs.Narrowing.{end_inside, ended, outside, way-found}
use Rattle.rings.proofs.way_near.Goals as goal

pub search-d-requires : goal.search-d-requires
search-d-requires c =
    let p = c.requires in
    record { lent = p.asks.lent; inside = p.asks.inside; wanted_size = p.asks.wanted_size; first_row = p.first_row }

pub in_ring-b-requires : goal.in_ring-b-requires
in_ring-b-requires c =
    let asks = c.requires.asks in
    let lent = asks.lent in
    let f = c.search-d.ensures.searched lent.shown in
    (omega (arith, f.roomy), asks.wanted_size, row-rowed lent.shown lent.most _ asks.inside _ _ _ f lent.table_size)

pub ended-requires : goal.ended-requires
ended-requires c =
    let lent = c.requires.asks.lent in
    (lent.most, (c.search-d.ensures.searched lent.shown).far)

pub returns-then-b-ge-SPAN : goal.returns-then-b-ge-SPAN
returns-then-b-ge-SPAN c =
    let asks = c.requires.asks in
    let search-place = c.search-d in
    record {
      near = λ s q w.
          way-ended s c.ended.ensures search-place.auto.rows
          (λ o. way-none s _ q _ (nearest-nowhere s asks.lent.most _ asks.inside _ _ _ (search-place.ensures.searched s) q w _ c.in_ring-b.ensures c.if-b-ge-SPAN.true o));
    }

pub narrow-requires : goal.narrow-requires
narrow-requires c =
    let asks = c.requires.asks in
    let lent = asks.lent in
    let f = c.search-d.ensures.searched lent.shown in
    let l = c.in_ring-b.ensures in
    let h = c.if-b-ge-SPAN.false in
    record {
      lent = record { most = lent.most; far = f.far; table_size = lent.table_size; rows_size = f.roomy };
      end_inside = end_inside lent.shown lent.most _ asks.inside asks.unheld _ _ _ _ f l h;
      ended = ended lent.shown lent.most _ asks.inside asks.unheld _ _ _ _ f l h;
    }

pub outward-requires : goal.outward-requires
outward-requires c =
    let search-place = c.search-d in
    let asks = c.requires.asks in
    let lent = asks.lent in
    let f = search-place.ensures.searched lent.shown in
    let l = c.in_ring-b.ensures in
    let h = c.if-b-ge-SPAN.false in
    let narrow = c.narrow in
    record {
      lent = record { most = lent.most; far = f.far; table_size = lent.table_size; rows_size = omega (arith, f.roomy) };
      room = asks.room;
      outside = outside lent.shown lent.most _ asks.inside asks.unheld _ _ _ _ f l h _ (narrow.ensures.narrowed (ended lent.shown lent.most _ asks.inside asks.unheld _ _ _ _ f l h));
    }

pub overflow_add-result : goal.overflow_add-result
overflow_add-result c =
    let search-place = c.search-d in
    let lent = c.requires.asks.lent in
    omega (arith, (search-place.ensures.searched lent.shown).far, lent.most)

pub returns : goal.returns
returns c =
    let if1 = c.if-b-ge-SPAN in
    let in-ring = c.in_ring-b in
    let search-place = c.search-d in
    let narrow = c.narrow in
    let asks = c.requires.asks in
    let most = asks.lent.most in
    let l = in-ring.ensures in
    let h = if1.false in
    record {
      near = λ s q w.
          let f = search-place.ensures.searched s in
          let z = narrow.ensures.narrowed (ended s most _ asks.inside asks.unheld _ _ _ _ f l h) in
          way-near s (way-found s most _ asks.inside asks.unheld _ _ _ _ f l h _ _ z q _ w (c.outward.ensures.path (outside s most _ asks.inside asks.unheld _ _ _ _ f l h _ z)) refl refl);
    }
