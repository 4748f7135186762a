use Rattle.std.proofs.Common.{◌≡◌, refl, ◌-◌, ◌≤◌, ◌<◌, arith, length, rules}
use borrow.Author.Tests.{not-true}
use Rattle.paper.proofs.Tests.{not-both}
use Rattle.words.specs.Sets.{words, span}
use Rattle.outlook.specs.Outlook.{Shut}
use Rattle.outlook.proofs.Looking.{side-inside, shut-first, free-first, blocked-by}
use Rattle.outlook.proofs.is_blocked.Goals as goal

pub join-requires : goal.join-requires
join-requires c = let q = c.requires in (search rules, omega (arith, q.most, q.first_inside))

pub join-requires-2 : goal.join-requires-2
join-requires-2 c = let q = c.requires in (search rules, omega (arith, q.most, q.second_inside))

pub alone-requires : goal.alone-requires
alone-requires c = let q = c.requires in (search rules, omega (arith, q.most, q.junction_inside))

pub join_row-requires : goal.join_row-requires
join_row-requires c = let q = c.requires in (search rules, omega (arith, q.table_size, q.junction_inside))

pub loop-x-init : goal.loop-x-init
loop-x-init c =
    let low = c.next_from-x.ensures in
    let q = c.requires in
    (search rules, omega arith, low.upto, λ h. side-inside _ _ _ _ _ q.charted q.junction_inside c.join_row.ensures h (low.hit h), shut-first c.alone.ensures)

pub open_sides-found-requires : goal.open_sides-found-requires
open_sides-found-requires c =
    let l = c.loop-x.invariant in
    let q = c.requires in
    record {
      most = q.most;
      table_size = q.table_size;
      free_size = search rules;
      shut_size = l.0;
      inside = l.3 c.loop-x-test.true;
      charted = q.charted;
    }

pub overflow_add-found : goal.overflow_add-found
overflow_add-found c = omega (arith, c.loop-x.invariant.1, c.open_sides-found.ensures.most)

pub returns-then-found-gt2 : goal.returns-then-found-gt2
returns-then-found-gt2 c = λ e. not-both e refl

pub loop-x-smaller : goal.loop-x-smaller
loop-x-smaller c = omega (arith, c.next_from-x-in-loop-x.ensures.from)

pub loop-x-preserved : goal.loop-x-preserved
loop-x-preserved c =
    let low = c.next_from-x-in-loop-x.ensures in
    let l = c.loop-x.invariant in
    let q = c.requires in
    (search rules, omega (arith, c.if-found-gt2.false), low.upto, λ h. side-inside _ _ _ _ _ q.charted q.junction_inside c.join_row.ensures h (low.hit h), c.open_sides-found.ensures.stays _ (omega (arith, q.most, q.junction_inside)) l.4)

pub has_three-requires : goal.has_three-requires
has_three-requires c = let q = c.requires in record { row = omega (arith, q.table_size, q.junction_inside); seen_size = search rules }

pub returns : goal.returns
returns c =
    let minus = c.minus in
    let l = c.loop-x.invariant in
    let join-row = c.join_row in
    let join2 = c.join-2 in
    let join = c.join in
    let keep = c.keep in
    let q = c.requires in
    λ e. blocked-by _ _ _ _ _ _ _ _ _ _ _ q.most q.first_inside q.second_inside (free-first _ _ _ _ _ _ _ _ q.most keep.ensures join.ensures join2.ensures) l.4 join-row.ensures minus.ensures (c.has_three.ensures.few (not-true _ e))
