-- `rings::path_near` meets its contract. The search around v for u alone ends at u's ring if u is reached at all, and the path inward from there is the paper's.
use Rattle.std.proofs.Common.{sym, ◌∙◌, arith, rules}
use Rattle.rings.proofs.Reading.{inside, path-first, path-none, path-near, path-ended}
use Rattle.rings.proofs.path_near.Goals as goal

pub search-d-requires : goal.search-d-requires
search-d-requires c =
    let p = c.requires in
    record { lent = p.asks.lent; inside = p.asks.goal_inside; wanted_size = c.alone.auto.ws; first_row = p.first_row }

pub overflow_mul-d : goal.overflow_mul-d
overflow_mul-d c =
    let lent = c.requires.asks.lent in
    omega (arith, (c.search-d.ensures.searched lent.shown).far, lent.most)

pub overflow_add-d : goal.overflow_add-d
overflow_add-d c =
    let asks = c.requires.asks in
    omega (arith, (c.search-d.ensures.searched asks.lent.shown).far, asks.lent.most, asks.start_inside)

pub is_in-requires : goal.is_in-requires
is_in-requires c =
    let asks = c.requires.asks in
    omega (arith, (c.search-d.ensures.searched asks.lent.shown).roomy, asks.lent.most, asks.start_inside)

pub inward-requires : goal.inward-requires
inward-requires c =
    let alone = c.alone in
    let asks = c.requires.asks in
    let lent = asks.lent in
    let f = c.search-d.ensures.searched lent.shown in
    record {
      lent = record { most = lent.most; far = f.far; table_size = lent.table_size; rows_size = f.roomy };
      room = asks.room;
      inside = inside lent.shown lent.most _ _ asks.goal_inside _ _ _ alone.ensures f asks.start_inside (sym c.if-is_in.true ∙ c.is_in.ensures);
    }

pub overflow_add-result : goal.overflow_add-result
overflow_add-result c =
    let search-place = c.search-d in
    let lent = c.requires.asks.lent in
    omega (arith, (search-place.ensures.searched lent.shown).far, lent.most)

pub returns-then-is_in : goal.returns-then-is_in
returns-then-is_in c =
    let search-place = c.search-d in
    let alone = c.alone in
    let asks = c.requires.asks in
    let most = asks.lent.most in
    let w = alone.ensures in
    let k = sym c.if-is_in.true ∙ c.is_in.ensures in
    record {
      near = λ s.
          let f = search-place.ensures.searched s in
          path-near s (path-first s most _ _ asks.goal_inside _ _ _ w f asks.start_inside k _ (c.inward.ensures.path (inside s most _ _ asks.goal_inside _ _ _ w f asks.start_inside k)));
    }

pub ended-requires : goal.ended-requires
ended-requires c =
    let lent = c.requires.asks.lent in
    (lent.most, (c.search-d.ensures.searched lent.shown).far)

pub returns : goal.returns
returns c =
    let alone = c.alone in
    let asks = c.requires.asks in
    let search-place = c.search-d in
    record {
      near = λ s.
          path-ended s c.ended.ensures search-place.auto.rows
          (path-none s asks.lent.most _ _ asks.goal_inside _ _ _ alone.ensures (search-place.ensures.searched s) asks.start_inside _ (sym c.if-is_in.false ∙ c.is_in.ensures));
    }
