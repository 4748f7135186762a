use Rattle.std.proofs.Common.{arith}
use Rattle.rings.proofs.Reading.{path-reached}
use Rattle.rings.proofs.path_between.Goals as goal
use Rattle.rings.proofs.path_between.Goals.{in-Farther, in_default}

pub returns : goal.returns
returns c =
    let most = c.requires.lent.most in
    record {
      found = λ s. rw (c.path_along.ensures, c.way_of.ensures) (elim c.match-near.branch [
        | in-Farther w ↦
            let near = w.path_near-near-in-Farther.ensures.near s in
            rw (w.near-is, w.path-is) (path-reached s _ near (λ k. let h = near.few k in absurd (omega (arith, h, most))))
        | in_default w ↦ rw (w.near-is, w.path-is) (path-reached s _ (c.path_near-near.ensures.near s) w.in_default.not-Farther)
      ]);
    }
