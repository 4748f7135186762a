-- Each refusal is the first of 1 to 6 because those before it have passed; where all have, the table holds every rail.
use Rattle.std.proofs.Common.{◌≡◌, true, false, Bool, ℕ, List, None, Option, refl, sym, ◌∙◌, arith}
use Rattle.paper.specs.Basics.{first_bad}
use Rattle.paper.specs.Order.{Order, order}
use Rattle.paper.specs.Docket.{yard_of, apart_bay, bad_size, bad_place}
use Rattle.first_bad.specs.Finding.{Finds, Lays}
use Rattle.first_bad.specs.Found.{Found}
use Rattle.first_bad.specs.Table.{Table}
use Rattle.first_bad.proofs.Rails.{table_of}
use Rattle.yard.proofs.Opening.{Past-1, Past-2, Past-3, Past-4, Past-5, past-1, past-2, past-3, past-4, past-5, fitting, first-1, first-2, first-3, first-4, first-5, first-6, first-none, tests-refused, tests-admitted}
use Rattle.yard.proofs.first_six.Goals as goal

pub returns-then-bad_size : goal.returns-then-bad_size
returns-then-bad_size c =
    tests-refused _ _ _ _ (first-1 _ _ _ c.bad_size.ensures c.if-bad_size.true)

pub bad_rail-rail-requires : goal.bad_rail-rail-requires
bad_rail-rail-requires c =
    let few = (fitting _ _ (past-1 _ _ _ c.bad_size.ensures c.if-bad_size.false)).few_bays in
    (few, c.requires.0 few, c.requires.1)

pub returns-in-Some : goal.returns-in-Some
returns-in-Some c =
    tests-refused _ _ _ _ (first-2 _ _ (past-1 _ _ _ c.bad_size.ensures c.if-bad_size.false) _ _ _ c.bad_rail-rail.ensures c.in-Some.is)

pub lowest_apart-apart-requires : goal.lowest_apart-apart-requires
lowest_apart-apart-requires c =
    let z = fitting _ _ (past-1 _ _ _ c.bad_size.ensures c.if-bad_size.false) in
    let asks = c.requires in
    let laid = c.bad_rail-rail.ensures.laid c.in_default.is in
    (omega arith, z.few_bays, record { rows = omega (arith, asks.0 z.few_bays); inside = λ a b h k m. (laid.inside a b (sym (laid.rows a b k) ∙ m)).1 })

pub overflow_cast-result : goal.overflow_cast-result
overflow_cast-result c =
    let z = fitting _ _ (past-1 _ _ _ c.bad_size.ensures c.if-bad_size.false) in
    let found = c.lowest_apart-apart.ensures _ (table_of _ _ _ (c.bad_rail-rail.ensures.laid c.in_default.is)) in
    record { fits = omega (arith, found.below _ c.in-Some-apart.is) }

pub returns-in-Some-apart : goal.returns-in-Some-apart
returns-in-Some-apart c =
    let p1 = past-1 _ _ _ c.bad_size.ensures c.if-bad_size.false in
    let p2 = past-2 _ _ p1 _ _ c.bad_rail-rail.ensures c.in_default.is in
    let found = c.lowest_apart-apart.ensures _ (table_of _ _ _ (c.bad_rail-rail.ensures.laid c.in_default.is)) in
    tests-refused _ _ _ _ (first-3 _ _ p2 _ _ found c.in-Some-apart.is)

pub overflow_sub-n : goal.overflow_sub-n
overflow_sub-n c = let z = fitting _ _ (past-1 _ _ _ c.bad_size.ensures c.if-bad_size.false) in omega arith

pub returns-then-n-start : goal.returns-then-n-start
returns-then-n-start c =
    let p1 = past-1 _ _ _ c.bad_size.ensures c.if-bad_size.false in
    let p2 = past-2 _ _ p1 _ _ c.bad_rail-rail.ensures c.in_default.is in
    let found = c.lowest_apart-apart.ensures _ (table_of _ _ _ (c.bad_rail-rail.ensures.laid c.in_default.is)) in
    tests-refused _ _ _ _ (first-4 _ _ (past-3 _ _ p2 _ found c.in_default-apart.is) c.if-n-start.true)

pub bad_place-from-requires : goal.bad_place-from-requires
bad_place-from-requires c = (fitting _ _ (past-1 _ _ _ c.bad_size.ensures c.if-bad_size.false)).few_bays

pub overflow_cast-result-in-Some-from : goal.overflow_cast-result-in-Some-from
overflow_cast-result-in-Some-from c =
    let z = fitting _ _ (past-1 _ _ _ c.bad_size.ensures c.if-bad_size.false) in
    record { fits = omega (arith, c.if-n-start.false, c.bad_place-from.ensures.below _ c.in-Some-from.is) }

pub returns-in-Some-from : goal.returns-in-Some-from
returns-in-Some-from c =
    let p1 = past-1 _ _ _ c.bad_size.ensures c.if-bad_size.false in
    let p2 = past-2 _ _ p1 _ _ c.bad_rail-rail.ensures c.in_default.is in
    let found = c.lowest_apart-apart.ensures _ (table_of _ _ _ (c.bad_rail-rail.ensures.laid c.in_default.is)) in
    let p4 = past-4 _ _ (past-3 _ _ p2 _ found c.in_default-apart.is) c.if-n-start.false in
    tests-refused _ _ _ _ (first-5 _ _ p4 _ _ c.bad_place-from.ensures c.in-Some-from.is)

pub bad_place-to-requires : goal.bad_place-to-requires
bad_place-to-requires c = (fitting _ _ (past-1 _ _ _ c.bad_size.ensures c.if-bad_size.false)).few_bays

pub overflow_cast-result-in-Some-to : goal.overflow_cast-result-in-Some-to
overflow_cast-result-in-Some-to c =
    let z = fitting _ _ (past-1 _ _ _ c.bad_size.ensures c.if-bad_size.false) in
    record { fits = omega (arith, c.if-n-start.false, c.bad_place-to.ensures.below _ c.in-Some-to.is) }

pub returns-in-Some-to : goal.returns-in-Some-to
returns-in-Some-to c =
    let p1 = past-1 _ _ _ c.bad_size.ensures c.if-bad_size.false in
    let p2 = past-2 _ _ p1 _ _ c.bad_rail-rail.ensures c.in_default.is in
    let found = c.lowest_apart-apart.ensures _ (table_of _ _ _ (c.bad_rail-rail.ensures.laid c.in_default.is)) in
    let p4 = past-4 _ _ (past-3 _ _ p2 _ found c.in_default-apart.is) c.if-n-start.false in
    let p5 = past-5 _ _ p4 _ c.bad_place-from.ensures c.in_default-from.is in
    tests-refused _ _ _ _ (first-6 _ _ p5 _ _ c.bad_place-to.ensures c.in-Some-to.is)

pub returns : goal.returns
returns c =
    let p1 = past-1 _ _ _ c.bad_size.ensures c.if-bad_size.false in
    let p2 = past-2 _ _ p1 _ _ c.bad_rail-rail.ensures c.in_default.is in
    let laid = c.bad_rail-rail.ensures.laid c.in_default.is in
    let found = c.lowest_apart-apart.ensures _ (table_of _ _ _ laid) in
    let p4 = past-4 _ _ (past-3 _ _ p2 _ found c.in_default-apart.is) c.if-n-start.false in
    let p5 = past-5 _ _ p4 _ c.bad_place-from.ensures c.in_default-from.is in
    tests-admitted _ _ _ _ (first-none _ _ p5 _ c.bad_place-to.ensures c.in_default-to.is) refl refl laid
