use Rattle.play.proofs.Playing.{places}
use Rattle.play.proofs.play_in.Goals as goal

pub returns : goal.returns
returns c = rw (places c.args.n c.requires.admitted.most) at c.play_on.ensures
