-- The lowest bit is a member, whose row joins. With no bit left all are found.
use Rattle.std.proofs.Common.{◌≡◌, arith, refl}
use Rattle.std.proofs.lemmas.Nat.{trailing_le}
use Rattle.words.proofs.Bits.{later, later-lowest}
use Rattle.words.proofs.Besides.{rest-whole, whole-first, rest-low, rest-member, rest-later, join-later, rest-none}
use Rattle.words.proofs.join_word.Goals as goal

pub loop-left-init : goal.loop-left-init
loop-left-init c = record { rest = rest-whole _ _ _ _ refl (c.type_inv.set _).fits; found = whole-first _ _ _ _ _ refl c.requires.4 }

pub join_row-requires : goal.join_row-requires
join_row-requires c =
    let l = c.loop-left in
    let r = l.invariant.rest in
    let low = rest-low _ _ _ l.left r (omega arith) in
    (omega arith, rw c.lowest_of.ensures (c.requires.3 _ (omega arith) (rest-member _ _ _ l.left r (omega arith))))

pub loop-left-smaller : goal.loop-left-smaller
loop-left-smaller c =
    let l = c.loop-left in
    omega (arith, later-lowest l.left (omega arith) l.invariant.rest.fits, trailing_le 64 (later l.left))

pub loop-left-preserved : goal.loop-left-preserved
loop-left-preserved c =
    let l = c.loop-left in
    let r = l.invariant.rest in
    record {
      rest = rest-later _ _ _ l.left r (omega arith);
      found = join-later _ _ _ l.left r (omega arith) _ _ l.invariant.found (rw c.lowest_of.ensures at c.join_row.ensures);
    }

pub returns : goal.returns
returns c = let e : c.loop-left.left ≡ 0 = omega arith in rest-none _ _ _ _ (rw e at c.loop-left.invariant.found)
