use Rattle.std.proofs.Common.{◌≡◌, ◌+◌, ◌*◌, ◌-◌, ◌<◌, refl, arith}
use lib.Bits.{and_le_r}
use lib.Count.{count_trailing_zeros}
use Rattle.words.proofs.Besides.{rest-whole, whole-first, rest-member, rest-later, join-later, rest-none}
use Rattle.apart.proofs.Word.{row-joins, none_beside, all-beside}
use Rattle.apart.proofs.beside_word.Goals as goal
use Rattle.apart.proofs.beside_word.Goals.{In-loop-left}

pub loop-left-init : goal.loop-left-init
loop-left-init c = record {
  rest = rest-whole _ _ 0 _ refl c.ranges.ring.fits;
  found = whole-first _ _ 0 _ _ refl (none_beside c.args.table.now c.args.ring);
}

pub bounds-table-a : goal.bounds-table-a
bounds-table-a c =
    let l = c.loop-left in
    omega (arith, c.requires.rows _ (rest-member _ _ 0 l.left l.invariant.rest (omega (arith, c.loop-left-test.true))))

pub loop-left-smaller : goal.loop-left-smaller
loop-left-smaller c = omega (arith, c.loop-left-test.true, and_le_r c.loop-left.left (c.loop-left.left - 1))

pub loop-left-preserved : goal.loop-left-preserved
loop-left-preserved c =
    let l = c.loop-left in
    let some : 0 < l.left = omega (arith, c.loop-left-test.true) in
    let e : count_trailing_zeros 64 l.left ≡ 0 * 64 + count_trailing_zeros 64 l.left = omega arith in record {
      rest = rest-later _ _ 0 l.left l.invariant.rest some;
      found = rw e (join-later _ _ 0 l.left l.invariant.rest some _ _ l.invariant.found (row-joins c.args.table.now _ c.requires l.next _ (rest-member _ _ 0 l.left l.invariant.rest some)));
    }

pub returns : goal.returns
returns c =
    let l = c.loop-left in
    let e : l.left ≡ 0 = c.loop-left-test.false in
    all-beside c.args.table.now c.args.ring l.next (rest-none _ _ _ 0 (rw e at l.invariant.found))
