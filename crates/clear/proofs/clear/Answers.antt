-- `clear::clear` meets its contract. The cases are how many neighbours are empty: two, one, or none.
use Rattle.std.proofs.Common.{refl, ◌∙◌, ◌≡◌, arith, length, rules, None, Some}
use Rattle.acting.proofs.Holding.{ready-again, holds_two, two_shown}
use Rattle.acting.proofs.Lending.{rest-lent}
use Rattle.keeping.proofs.Keeping.{two-short, two-both, two-within, two-after, clears-short, clears-as, clears-after}
use Rattle.keeping.proofs.Around.{around-of, inside_of, inside-less}
use Rattle.clear.proofs.Clearing.{lowest-in, first-none, first_then, clear_none, clear-one, clear-two, lowest-free, kept_free, clears-both}
use Rattle.clear.proofs.clear.Goals as goal

pub slice_bounds-remove-end : goal.slice_bounds-remove-end
slice_bounds-remove-end c =
    let join-row = c.join_row in
    omega (arith, join-row.auto.acc)

pub slice_bounds-join-end : goal.slice_bounds-join-end
slice_bounds-join-end c =
    let alone = c.alone in
    omega (arith, alone.auto.ws)

pub slice_bounds-lowest_common-end : goal.slice_bounds-lowest_common-end
slice_bounds-lowest_common-end c =
    let remove = c.remove in
    let join-row = c.join_row in
    omega (arith, remove.auto.ws, join-row.auto.acc)

pub lowest_common-x-requires : goal.lowest_common-x-requires
lowest_common-x-requires c =
    let remove = c.remove in
    let join-row = c.join_row in
    (omega (arith, remove.auto.ws, join-row.auto.acc), omega (arith, c.requires.ready.empty_size))

pub slice_bounds-remove-end-then-x-lt-SPAN : goal.slice_bounds-remove-end-then-x-lt-SPAN
slice_bounds-remove-end-then-x-lt-SPAN c =
    let remove = c.remove in
    let join-row = c.join_row in
    omega (arith, remove.auto.ws, join-row.auto.acc)

pub remove-requires-then-x-lt-SPAN : goal.remove-requires-then-x-lt-SPAN
remove-requires-then-x-lt-SPAN c =
    let remove = c.remove in
    let join-row = c.join_row in
    omega (arith, c.if-x-lt-SPAN.true, remove.auto.ws, join-row.auto.acc)

pub slice_bounds-lowest_common-end-then-x-lt-SPAN : goal.slice_bounds-lowest_common-end-then-x-lt-SPAN
slice_bounds-lowest_common-end-then-x-lt-SPAN c =
    let remove2 = c.remove-then-x-lt-SPAN in
    let remove = c.remove in
    let join-row = c.join_row in
    omega (arith, remove2.auto.ws, remove.auto.ws, join-row.auto.acc)

pub lowest_common-y-requires : goal.lowest_common-y-requires
lowest_common-y-requires c =
    let remove = c.remove in
    let join-row = c.join_row in
    (omega (arith, c.remove-then-x-lt-SPAN.auto.ws, remove.auto.ws, join-row.auto.acc), omega (arith, c.requires.ready.empty_size))

pub overflow_cast-result : goal.overflow_cast-result
overflow_cast-result c = omega (arith, c.if-x-lt-SPAN.true)

pub overflow_cast-result-then-y-lt-SPAN : goal.overflow_cast-result-then-y-lt-SPAN
overflow_cast-result-then-y-lt-SPAN c = omega (arith, c.if-y-lt-SPAN.true)

pub returns-then-y-lt-SPAN : goal.returns-then-y-lt-SPAN
returns-then-y-lt-SPAN c =
    let remove2 = c.remove-then-x-lt-SPAN in
    let if1 = c.if-x-lt-SPAN in
    let lowest-common = c.lowest_common-x in
    let remove = c.remove in
    let join-row = c.join_row in
    let p = c.requires.ready in
    let z = c.requires.clear_asks in
    let i = inside_of p.tabled _ _ _ _ z.junction join-row.ensures remove.ensures in
    let j = inside-less i _ _ remove2.ensures in
    let hx = lowest-in _ i lowest-common.ensures if1.true in
    let hy = lowest-in _ j c.lowest_common-y.ensures c.if-y-lt-SPAN.true in
    record { few = two-both if1.true c.if-y-lt-SPAN.true (omega arith); clears = λ t. clears-both (clear-two (around-of t _ _ _ _ p.most z.junction join-row.ensures remove.ensures) p.most p.placed lowest-common.ensures hx _ remove2.ensures c.lowest_common-y.ensures hy) _ p.placed }

pub overflow_cast-kept : goal.overflow_cast-kept
overflow_cast-kept c = omega (arith, c.if-x-lt-SPAN.true)

pub slice_bounds-keep_second-end : goal.slice_bounds-keep_second-end
slice_bounds-keep_second-end c =
    let remove2 = c.remove-then-x-lt-SPAN in
    let remove = c.remove in
    let join-row = c.join_row in
    omega (arith, remove2.auto.ws, remove.auto.ws, join-row.auto.acc)

pub slice_bounds-keep_second-end-then-x-lt-SPAN : goal.slice_bounds-keep_second-end-then-x-lt-SPAN
slice_bounds-keep_second-end-then-x-lt-SPAN c =
    let join = c.join in
    let alone = c.alone in
    omega (arith, join.auto.ws, alone.auto.ws)

pub keep_second-requires : goal.keep_second-requires
keep_second-requires c =
    let remove2 = c.remove-then-x-lt-SPAN in
    let if1 = c.if-x-lt-SPAN in
    let lowest-common = c.lowest_common-x in
    let join = c.join in
    let alone = c.alone in
    let remove = c.remove in
    let join-row = c.join_row in
    let p = c.requires.ready in
    let z = c.requires.clear_asks in
    let i = inside_of p.tabled _ _ _ _ z.junction join-row.ensures remove.ensures in
    let hx = lowest-in _ i lowest-common.ensures if1.true in
    record {
      ready = p;
      keep_second_asks = record {
        others_size = omega (arith, remove2.auto.ws, remove.auto.ws, join-row.auto.acc);
        held_size = omega (arith, join.auto.ws, alone.auto.ws);
        from_low = omega arith;
        inside = hx;
        among = inside-less i _ _ remove2.ensures;
        holds = holds_two p.tabled _ _ _ _ alone.ensures join.ensures;
        free = lowest-free _ p.placed lowest-common.ensures hx p.most;
      };
    }

pub returns-then-x-lt-SPAN : goal.returns-then-x-lt-SPAN
returns-then-x-lt-SPAN c =
    let keep-second = c.keep_second in
    let if2 = c.if-y-lt-SPAN in
    let lowest-common2 = c.lowest_common-y in
    let remove2 = c.remove-then-x-lt-SPAN in
    let if1 = c.if-x-lt-SPAN in
    let lowest-common = c.lowest_common-x in
    let join = c.join in
    let alone = c.alone in
    let remove = c.remove in
    let join-row = c.join_row in
    let p = c.requires.ready in
    let z = c.requires.clear_asks in
    let i = inside_of p.tabled _ _ _ _ z.junction join-row.ensures remove.ensures in
    let hx = lowest-in _ i lowest-common.ensures if1.true in
    record { few = two-within (omega arith) keep-second.ensures.few; clears = λ t. clears-as (clear-one (around-of t _ _ _ _ p.most z.junction join-row.ensures remove.ensures) p.most p.placed lowest-common.ensures hx _ remove2.ensures lowest-common2.ensures if2.false) (keep-second.ensures.clears t (holds_two t _ _ _ _ alone.ensures join.ensures)) }

pub slice_bounds-keep_one-end : goal.slice_bounds-keep_one-end
slice_bounds-keep_one-end c =
    let remove = c.remove in
    let join-row = c.join_row in
    omega (arith, remove.auto.ws, join-row.auto.acc)

pub slice_bounds-keep_one-end-2 : goal.slice_bounds-keep_one-end-2
slice_bounds-keep_one-end-2 c =
    let join = c.join in
    let alone = c.alone in
    omega (arith, join.auto.ws, alone.auto.ws)

pub keep_one-first-requires : goal.keep_one-first-requires
keep_one-first-requires c =
    let join = c.join in
    let alone = c.alone in
    let remove = c.remove in
    let join-row = c.join_row in
    let p = c.requires.ready in
    let z = c.requires.clear_asks in
    let i = inside_of p.tabled _ _ _ _ z.junction join-row.ensures remove.ensures in
    record {
      ready = p;
      keep_asks = record {
        others_size = omega (arith, remove.auto.ws, join-row.auto.acc);
        held_size = omega (arith, join.auto.ws, alone.auto.ws);
        from_low = omega arith;
        among = i;
        shown = two_shown p.tabled (holds_two p.tabled _ _ _ _ alone.ensures join.ensures);
      };
    }

pub returns-in_default : goal.returns-in_default
returns-in_default c =
    let keep_one = c.keep_one-first in
    let if1 = c.if-x-lt-SPAN in
    let lowest-common = c.lowest_common-x in
    let join = c.join in
    let alone = c.alone in
    let remove = c.remove in
    let join-row = c.join_row in
    let p = c.requires.ready in
    let z = c.requires.clear_asks in
    let e : keep_one.result ≡ None = c.in_default.is in
    record { few = two-short _; clears = λ t. clears-short (rw (clear_none (around-of t _ _ _ _ p.most z.junction join-row.ensures remove.ensures) p.most p.placed lowest-common.ensures if1.false) (first-none _ _ _ _ _ _ p.most (rw e at (keep_one.ensures.keeps (two_shown t (holds_two t _ _ _ _ alone.ensures join.ensures)))).stuck)) }

pub overflow_add-next : goal.overflow_add-next
overflow_add-next c =
    let keep_one = c.keep_one-first in
    let e : keep_one.result ≡ Some (c.in-Some.kept, c.in-Some.made) = c.in-Some.is in
    let few = rw e at keep_one.ensures.few in
    omega (arith, few.0)

pub slice_bounds-keep_second-end-2 : goal.slice_bounds-keep_second-end-2
slice_bounds-keep_second-end-2 c =
    let remove = c.remove in
    let join-row = c.join_row in
    omega (arith, remove.auto.ws, join-row.auto.acc)

pub slice_bounds-keep_second-end-3 : goal.slice_bounds-keep_second-end-3
slice_bounds-keep_second-end-3 c =
    let join = c.join in
    let alone = c.alone in
    omega (arith, join.auto.ws, alone.auto.ws)

pub offset_bounds-out-place : goal.offset_bounds-out-place
offset_bounds-out-place c =
    search (rules, c.place_in-place.ensures, c.keep_one-first.auto.out, c.well_formed)

pub keep_second-rest-requires : goal.keep_second-rest-requires
keep_second-rest-requires c =
    let keep_one = c.keep_one-first in
    let join = c.join in
    let alone = c.alone in
    let remove = c.remove in
    let join-row = c.join_row in
    let p = c.requires.ready in
    let z = c.requires.clear_asks in
    let e : keep_one.result ≡ Some (c.in-Some.kept, c.in-Some.made) = c.in-Some.is in
    let h = holds_two p.tabled _ _ _ _ alone.ensures join.ensures in
    let o = rw e at (keep_one.ensures.keeps (two_shown p.tabled h)) in
    let i = inside_of p.tabled _ _ _ _ z.junction join-row.ensures remove.ensures in
    let kw : length keep_one.new.standing ≡ length c.args.standing.now = keep_one.auto.standing in
    let kf = keep_one.auto.empty in
    record {
      ready = ready-again p _ _ _ kw kf o.played.placed;
      keep_second_asks = record {
        others_size = omega (arith, remove.auto.ws, join-row.auto.acc);
        held_size = omega (arith, join.auto.ws, alone.auto.ws);
        from_low = omega (arith, o.low, kw);
        inside = rw kw o.low;
        among = rw kw i;
        holds = h;
        free = kept_free p.tabled p.placed o;
      };
    }

pub after-requires : goal.after-requires
after-requires c =
    let keep_one = c.keep_one-first in
    let e : keep_one.result ≡ Some (c.in-Some.kept, c.in-Some.made) = c.in-Some.is in
    let few = rw e at keep_one.ensures.few in
    record { earlier = few.1; by = c.keep_second-rest.ensures.few }

pub returns : goal.returns
returns c =
    let keep-second2 = c.keep_second-rest in
    let keep_one = c.keep_one-first in
    let if1 = c.if-x-lt-SPAN in
    let lowest-common = c.lowest_common-x in
    let join = c.join in
    let alone = c.alone in
    let remove = c.remove in
    let join-row = c.join_row in
    let p = c.requires.ready in
    let z = c.requires.clear_asks in
    let e : keep_one.result ≡ Some (c.in-Some.kept, c.in-Some.made) = c.in-Some.is in
    let few = rw e at keep_one.ensures.few in
    let kw : length keep_one.new.standing ≡ length c.args.standing.now = keep_one.auto.standing in
    record {
      few = two-after few.1 keep-second2.ensures.few c.after.ensures;
      clears = λ t.
          let h = holds_two t _ _ _ _ alone.ensures join.ensures in
          let o = rw e at (keep_one.ensures.keeps (two_shown t h)) in
          let s = rw kw at keep-second2.ensures.clears in
          clears-as (clear_none (around-of t _ _ _ _ p.most z.junction join-row.ensures remove.ensures) p.most p.placed lowest-common.ensures if1.false)
          (first_then o (clears-after (λ more sum a. rest-lent _ c.place_in-place.ensures c.out-3-1.given a) (s t h) c.after.ensures));
    }
