-- The second way is tried where the first never works.
use Rattle.std.proofs.Common.{length}
use Rattle.either_way.proofs.Either.{first_way, second_way}
use Rattle.either_way.proofs.either_way.Goals as goal

pub returns-in-Some : goal.returns-in-Some
returns-in-Some c =
    let first = c.first_kept-first.ensures in
    let a = c.args in
    let l = a.one.lead in
    record {
      few = rw c.in-Some.is at first.few;
      keeps = λ t j o.
          first_way t.yard l.couple.leader.0 l.couple.follower.0 l.junction.0 a.one.behind.0 a.one.kept.0 a.placement.now (length a.standing.now) a.others.now o (rw c.in-Some.is at (first.keeps t j));
    }

pub returns : goal.returns
returns c =
    let a = c.args in
    let l = a.one.lead in
    record {
      few = c.first_kept.ensures.few;
      keeps = λ t j o.
          second_way t.yard l.couple.leader.0 l.couple.follower.0 l.junction.0 a.one.behind.0 a.one.kept.0 a.placement.now (length a.standing.now) a.others.now o
          ((c.first_kept-first.ensures.keeps t j).nothing c.in_default.is) (c.first_kept.ensures.keeps t j);
    }
