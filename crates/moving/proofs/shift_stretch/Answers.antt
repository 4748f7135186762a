use Rattle.std.proofs.Common.{◌≡◌, ◌+◌, ◌-◌, ◌≤◌, ◌∙◌, arith, drop, length, ℕ, List}
use Rattle.moving.specs.Placed.{Placed, CanShift}
use Rattle.moving.proofs.Shifting.{Shifting, shift_none, first-low, last-low, shifting-none, shifting-asks, shifting-on, shifting-all}
use Rattle.moving.proofs.shift_stretch.Goals as goal

pub returns-then-path-lt2 : goal.returns-then-path-lt2
returns-then-path-lt2 c = shift_none _ _ _ _ _ _ _ c.if-path-lt2.true c.requires.placed

-- nobody has moved where the place is the path's last
none_moved : {n : ℕ} {p : List ℕ} (path : List ℕ) (s : CanShift n p path) {standing empty : List ℕ} (out : List ℕ) (at i : ℕ) → i ≡ length path - 1 → 2 ≤ length path
    → Placed n p standing empty → Shifting n p (drop i path) p standing out at out at
none_moved path s out at i e h k = rw e (shifting-none path s out at h k)

pub loop-i-init : goal.loop-i-init
loop-i-init c = none_moved _ c.requires.can_shift _ _ _ (omega arith) c.if-path-lt2.false c.requires.placed

pub move_on-count-requires : goal.move_on-count-requires
move_on-count-requires c =
    let p = c.requires in
    let l = c.loop-i in
    let place : l.i - 1 + 1 ≡ l.i = omega arith in
    let u = shifting-asks _ p.can_shift l.i (l.i - 1) (omega arith) (omega arith) l.invariant p.counts in
    rw place (omega (arith, u.from_low), omega (arith, u.to_low), u.stands, u.fits)

pub loop-i-preserved : goal.loop-i-preserved
loop-i-preserved c =
    let p = c.requires in
    let l = c.loop-i in
    let place : l.i - 1 + 1 ≡ l.i = omega arith in
    shifting-on _ p.can_shift l.i (l.i - 1) (omega arith) (omega arith) l.invariant (omega arith) (rw place at c.move_on-count.ensures)

pub bounds-standing-path : goal.bounds-standing-path
bounds-standing-path c = let low = first-low _ c.requires.can_shift c.if-path-lt2.false in omega (arith, low)

pub remove-requires : goal.remove-requires
remove-requires c = let p = c.requires in let low = last-low _ p.can_shift c.if-path-lt2.false in omega (arith, low, p.most, p.empty_size)

pub add-requires : goal.add-requires
add-requires c = let p = c.requires in let low = first-low _ p.can_shift c.if-path-lt2.false in omega (arith, low, p.most, p.empty_size)

pub returns : goal.returns
returns c =
    let p = c.requires in
    let none : c.loop-i.i ≡ 0 = omega arith in
    let w = rw none at c.loop-i.invariant in
    shifting-all _ p.can_shift c.if-path-lt2.false p.placed w (λ z. c.add.ensures z ∙ rw (c.remove.ensures z))
