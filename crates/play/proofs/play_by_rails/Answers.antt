use Rattle.std.proofs.Common.{◌*◌, arith}
use lib.Seq.{length-take-le}
use Rattle.words.specs.Sets.{words}
use Rattle.play.proofs.Levelling.{tabled-same, admitted-same, same_taken, rails-levelled}
use Rattle.play.proofs.play_by_rails.Goals as goal

pub play_in-requires : goal.play_in-requires
play_in-requires c =
    let table = c.args.table.now in
    let n = c.args.n in
    let size = length-take-le (n * words) table c.requires.words_in_bounds in
    record {
      admitted = admitted-same (same_taken n (n * words) table (omega arith)) c.requires.admitted;
      table_size = omega (arith, size);
      levelled = rails-levelled n table c.requires.words_in_bounds;
    }

pub returns : goal.returns
returns c = λ t. c.play_in.ensures (tabled-same (same_taken c.args.n (c.args.n * words) c.args.table.now (omega arith)) t)
