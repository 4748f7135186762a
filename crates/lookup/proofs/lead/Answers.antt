-- With each step the walk goes on, and at its end comes e.
use Rattle.std.proofs.Common.{◌≡◌, ◌+◌, ◌-◌, arith, set}
use Rattle.lookup.specs.Told.{Distant}
use Rattle.lookup.proofs.Leading.{Leading, leading-inside, leading-first, leading-more, leading-all}
use Rattle.lookup.proofs.lead.Goals as goal

pub loop-i-init : goal.loop-i-init
loop-i-init c =
    let a = c.args in
    let p = c.requires in
    let first : (t : Distant a.n a.table.now a.held.now a.x.0 a.e.0 a.d) → Leading t 0 a.x.0 a.path.now = λ t. leading-first t _ p.unheld in
    record { inside = leading-inside p.distant p.most 0 _ _ (first p.distant); leading = first }

pub loop-i-preserved : goal.loop-i-preserved
loop-i-preserved c =
    let a = c.args in
    let p = c.requires in
    let l = c.loop-i in
    let on : (t : Distant a.n a.table.now a.held.now a.x.0 a.e.0 a.d) → Leading t (l.i + 1) c.lowest_free-u.result (set l.path l.i l.u) =
    λ t. leading-more t p.most l.i l.u l.path (l.invariant.leading t) _ p.levels_size (omega arith) (omega arith) c.lowest_free-u.ensures c.if-u-ge-SPAN.false in
    record { inside = leading-inside p.distant p.most (l.i + 1) _ _ (on p.distant); leading = on }

pub returns : goal.returns
returns c =
    let p = c.requires in
    let l = c.loop-i in
    let e : l.i ≡ c.args.d - 1 = omega (arith, p.apart) in
    record { leads = λ t k. leading-all t p.most (c.args.d - 1) l.u l.path (rw e at (l.invariant.leading t)) (omega (arith, p.apart)) (omega (arith, p.room, p.short)) }
