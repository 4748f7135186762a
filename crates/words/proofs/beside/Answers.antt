-- Nothing is found at first, and past the last word that is all.
use Rattle.words.specs.Sets.{words}
use Rattle.words.proofs.Sets.{mem-zeros}
use Rattle.words.proofs.Besides.{beside_none}
use Rattle.words.proofs.beside.Goals as goal

pub loop-i-init : goal.loop-i-init
loop-i-init c = beside_none _ _ _ (mem-zeros words)
