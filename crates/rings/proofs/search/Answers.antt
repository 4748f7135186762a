use Rattle.std.proofs.Common.{◌≡◌, ◌-◌, ◌∙◌, sym, arith}
use Rattle.rings.proofs.Searching.{searching-first, searching-inside, searching-more, searched-wanted, searched-dry, searched-last}
use Rattle.rings.proofs.search.Goals as goal
use Rattle.rings.proofs.search.Goals.{then-meets-via-then-meets, then-meets-via-else-meets+then-is_empty}

pub loop-d-init : goal.loop-d-init
loop-d-init c =
    λ s. searching-first s _ _ _ _ _ _ _ _ c.requires.inside c.keep.ensures c.join.ensures c.alone.ensures c.keep-2.ensures

pub returns-then-meets : goal.returns-then-meets
returns-then-meets c =
    let p = c.requires in
    let g = c.loop-d.invariant in
    record {
      searched = λ s. elim c.then-meets.branch [
        | then-meets-via-then-meets w ↦ searched-wanted s _ _ _ _ _ _ (g s) (sym c.meets.ensures ∙ w.if-meets.true) (omega arith)
        | then-meets-via-else-meets+then-is_empty w ↦
            searched-dry s _ _ _ _ _ _ p.lent.most p.inside (g s) (sym w.is_empty.ensures ∙ w.if-is_empty.true) (omega arith)
      ];
    }

pub next_ring-requires : goal.next_ring-requires
next_ring-requires c =
    let p = c.requires in
    record {
      table_size = p.lent.table_size;
      seen_size = omega arith;
      ring_size = omega arith;
      rows_size = omega arith;
      more = omega arith;
      inside = searching-inside p.lent.shown _ _ _ _ _ _ p.lent.most p.inside (c.loop-d.invariant p.lent.shown);
    }

pub loop-d-preserved : goal.loop-d-preserved
loop-d-preserved c =
    let p = c.requires in
    λ s. searching-more s _ _ _ _ _ _ _ _ _ p.lent.most p.inside (omega arith) (c.loop-d.invariant s) (sym c.meets.ensures ∙ c.if-meets.false) c.next_ring.ensures

pub returns : goal.returns
returns c =
    let all : c.loop-d.d ≡ c.min-last.result - 1 = omega arith in
    record { searched = λ s. searched-last s _ _ _ _ _ _ (rw all at (c.loop-d.invariant s)) (omega arith) (λ h. omega arith) }
