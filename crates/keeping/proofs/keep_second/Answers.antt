-- `keeping::keep_second` meets its contract. Holding the bay kept as well, the first that can be vacated is the second.
use Rattle.std.proofs.Common.{◌≡◌, arith, rules, None, Some}
use Rattle.acting.proofs.Holding.{held_shown}
use Rattle.keeping.proofs.Keeping.{two-single, two-both, second-both, second-single}
use Rattle.keeping.proofs.keep_second.Goals as goal

pub keep_one-second-requires : goal.keep_one-second-requires
keep_one-second-requires c =
    let p = c.requires.ready in
    let z = c.requires.keep_second_asks in
    record { ready = p; keep_asks = record { others_size = z.others_size; held_size = search rules; from_low = omega (arith, p.most, z.from_low); among = z.among; shown = held_shown p.tabled z.holds _ c.join.ensures } }

pub returns-in_default : goal.returns-in_default
returns-in_default c =
    let keep_one = c.keep_one-second in
    let join = c.join in
    let p = c.requires.ready in
    let z = c.requires.keep_second_asks in
    let e : keep_one.result ≡ None = c.in_default.is in
    record {
      few = two-single (omega (arith, z.inside, p.most)) (omega arith);
      clears = λ t h. second-single z.from_low p.most z.inside z.free (rw e at (keep_one.ensures.keeps (held_shown t h _ join.ensures)));
    }

pub returns : goal.returns
returns c =
    let keep_one = c.keep_one-second in
    let join = c.join in
    let z = c.requires.keep_second_asks in
    let e : keep_one.result ≡ Some (c.in-Some.y, c.in-Some.m) = c.in-Some.is in
    let few = rw e at keep_one.ensures.few in
    record {
      few = two-both (omega (arith, z.inside, c.requires.ready.most)) few.0 few.1;
      clears = λ t h. second-both (rw e at (keep_one.ensures.keeps (held_shown t h _ join.ensures)));
    }
