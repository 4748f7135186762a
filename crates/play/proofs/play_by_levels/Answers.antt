use Rattle.std.proofs.Common.{◌*◌, ◌≤◌, length, arith}
use Rattle.words.specs.Sets.{words}
use Rattle.play.proofs.Levelling.{tabled-same, admitted-same, rails-of, same-appended, same-raised, room-raised}
use Rattle.play.proofs.play_by_levels.Goals as goal

pub raise-levels-requires : goal.raise-levels-requires
raise-levels-requires c =
    let a = c.requires.admitted in
    let few : c.args.n * words ≤ length c.args.table.now = omega (arith, a.most) in
    record {
      most = a.most;
      some_bay = c.requires.n_nonzero;
      table_size = omega (arith, a.most);
      rails = rails-of (tabled-same (rw c.copy.ensures (same-appended _ _ _ few)) a.reaching.tabled);
    }

pub play_in-requires : goal.play_in-requires
play_in-requires c =
    let a = c.requires.admitted in
    let r = c.raise-levels.ensures in
    let few : c.args.n * words ≤ length c.args.table.now = omega (arith, a.most) in
    let same = same-raised _ _ _ _ _ _ few c.copy.ensures r.same_rails r.some_level in
    record { admitted = admitted-same same a; table_size = room-raised _ _ _ r.some_level r.room; levelled = r.levelled }

pub returns : goal.returns
returns c =
    let r = c.raise-levels.ensures in
    let few : c.args.n * words ≤ length c.args.table.now = omega (arith, c.requires.admitted.most) in
    let same = same-raised _ _ _ _ _ _ few c.copy.ensures r.same_rails r.some_level in
    λ t. c.play_in.ensures (tabled-same same t)
