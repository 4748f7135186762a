-- The placement does not change, so every attempt starts from where the first one did.
use Rattle.std.proofs.Common.{arith}
use Rattle.either_way.proofs.Either.{failing-none, failing-more, kept-none, kept-one}
use Rattle.either_way.proofs.first_kept.Goals as goal

pub loop-x-init : goal.loop-x-init
loop-x-init c = let l = c.next_from-x.ensures in record { upto = l.upto; hit = l.hit; failing = λ t j. failing-none _ _ _ _ l }

pub attempt-tried-requires : goal.attempt-tried-requires
attempt-tried-requires c =
    let z = c.requires.others_ask in
    let t = c.loop-x-test.true in
    record { ready = c.requires.ready; attempt_asks = record { around = z.around; inside = z.among.low _ t (c.loop-x.invariant.hit t) } }

pub returns-in-Some : goal.returns-in-Some
returns-in-Some c =
    let attempt = c.attempt-tried.ensures in
    let z = c.requires.others_ask in
    let t = c.loop-x-test.true in
    let v = c.loop-x.invariant in
    record {
      few = let few = rw c.in-Some.is at attempt.few in omega arith;
      keeps = λ w j. kept-one _ _ _ _ (z.among.low _ t (v.hit t)) (v.hit t) (v.failing w j) ((attempt.attempts w j).done _ c.in-Some.is);
    }

pub loop-x-preserved : goal.loop-x-preserved
loop-x-preserved c =
    let n = c.next_from-x-in-loop-x.ensures in
    record {
      upto = n.upto;
      hit = n.hit;
      failing = λ w j. failing-more _ _ _ _ _ (c.loop-x.invariant.failing w j) ((c.attempt-tried.ensures.attempts w j).fails c.in_default.is) n;
    }

pub returns : goal.returns
returns c = record { few = tt; keeps = λ w j. kept-none _ _ _ _ (omega arith) (c.loop-x.invariant.failing w j) }
