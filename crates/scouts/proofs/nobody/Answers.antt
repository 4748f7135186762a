-- `scouts::nobody` meets its contract.
use Rattle.std.proofs.Common.{refl}
use Rattle.words.specs.Sets.{words}
use Rattle.words.proofs.Sets.{mem-zeros}
use Rattle.scouts.proofs.nobody.Goals as goal

pub returns : goal.returns
returns c = record { ours = refl; theirs = refl; stuck_size = refl; none_stuck = λ b. mem-zeros words b }
