use Rattle.ways.proofs.Finding.{path-of}
use Rattle.ways.proofs.path_by_queue.Goals as goal

pub returns : goal.returns
returns c =
    let p = c.requires in
    let asks = p.asks in
    record {
      found = λ s.
          rw c.path_along.ensures
          (path-of s asks.lent.most _ _ asks.start_inside asks.goal_inside p.start_unheld p.goal_unheld _ _ (c.one_by_one.ensures.found s _ (λ b h. c.alone.ensures b)));
    }
