use Rattle.std.proofs.Common.{arith}
use Rattle.rings.proofs.Reading.{way-reached}
use Rattle.rings.proofs.way_to_nearest.Goals as goal
use Rattle.rings.proofs.way_to_nearest.Goals.{in-Farther, in_default}

pub returns : goal.returns
returns c =
    let most = c.requires.lent.most in
    record {
      found = λ s q e. rw c.way_of.ensures (elim c.match-near.branch [
        | in-Farther w ↦
            let near = w.way_near-near-in-Farther.ensures.near s q e in
            rw (w.near-is, w.path-is) (way-reached s _ near (λ k. let h = near.few k in absurd (omega (arith, h, most))))
        | in_default w ↦ rw (w.near-is, w.path-is) (way-reached s _ (c.way_near-near.ensures.near s q e) w.in_default.not-Farther)
      ]);
    }
