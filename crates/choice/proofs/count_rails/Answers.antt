-- The words counted are the row.
use Rattle.std.proofs.Common.{◌≡◌, ◌∙◌, ◌+◌, ◌-◌, ◌*◌, arith}
use Rattle.words.specs.Sets.{words}
use Rattle.choice.proofs.Counting.{row-rails}
use Rattle.choice.proofs.count_rails.Goals as goal

pub returns : goal.returns
returns c =
    let a = c.args.a in
    let size : a * words + words - a * words ≡ words = omega arith in
    c.count.ensures ∙ row-rails _ a _ size c.requires
