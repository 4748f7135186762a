use Rattle.std.proofs.Common.{◌≡◌, ◌≤◌, length, arith}
use Rattle.queue.proofs.Passing.{passed-inside, passed-room, passed-more}
use Rattle.queue.proofs.pass.Goals as goal

pub meet-c-requires : goal.meet-c-requires
meet-c-requires c =
    let p = c.requires in
    let l = c.loop-done in
    let g = l.invariant p.standing.0 p.standing.1 p.standing.2 in
    let room : c.args.n ≤ length l.met = omega (arith, p.room) in
    record {
      row = omega (arith, p.table_size, passed-inside g p.most room (omega (arith, g.more)));
      seen_size = omega arith;
      before_size = omega arith;
      room = omega (arith, room, passed-room g p.most room (omega (arith, g.more)));
    }

pub loop-done-preserved : goal.loop-done-preserved
loop-done-preserved c =
    let p = c.requires in
    λ held x m.
    let g = c.loop-done.invariant held x m in
    passed-more g p.most (omega (arith, p.room)) (omega (arith, g.more)) _ _ _ _ c.meet-c.ensures

pub returns : goal.returns
returns c =
    let all : c.loop-done.done ≡ c.args.count = omega arith in
    record { passes = λ held x m. rw all at (c.loop-done.invariant held x m) }
