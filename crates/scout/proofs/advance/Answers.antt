-- Each bay is a way of its own.
use Rattle.std.proofs.Common.{◌≡◌, ℕ, zero, suc, ◌<◌, [], ◌∷◌, length, get_or, arith}
use Rattle.std.proofs.Math.Seq.{take_all}
use Rattle.acting.proofs.Holding.{ready-again}
use Rattle.scout.proofs.Going.{gone-nowhere, gone-further, gone-stops}
use Rattle.scout.proofs.advance.Goals as goal

alone-low : (x n : ℕ) → x < n → (k : ℕ) → k < 1 → get_or (x ∷ []) k 0 < n
alone-low x n h zero m = h
alone-low x n h (suc k) m = absurd (omega arith)

pub loop-i-init : goal.loop-i-init
loop-i-init c = λ t. gone-nowhere t.yard _ _ c.args.way.now _ _ _ c.requires.ready.placed

pub bring-one-requires : goal.bring-one-requires
bring-one-requires c =
    let p = c.requires.ready in
    let z = c.requires.advance_asks in
    let loop = c.loop-i in
    let kw : length loop.standing ≡ length c.args.standing.now = omega arith in
    record {
      ready = ready-again p _ _ _ kw (omega arith) (loop.invariant p.tabled).placed;
      bring_asks = record {
        coupled = record { leads = omega arith; follows = omega arith; differ = z.differ };
        inside = alone-low _ _ (rw kw (z.inside loop.i (omega arith)));
        short = omega arith;
      };
    }

pub returns-in_default : goal.returns-in_default
returns-in_default c =
    let loop = c.loop-i in
    let kw : length loop.standing ≡ length c.args.standing.now = omega arith in
    let f = rw (kw, c.in_default.is) at c.bring-one.ensures.tries in
    record {
      most = omega arith;
      stops = λ h t. gone-stops _ (omega arith) (loop.invariant t) (f t);
      gone = λ h. absurd (omega arith);
    }

pub loop-i-preserved : goal.loop-i-preserved
loop-i-preserved c =
    let loop = c.loop-i in
    let kw : length loop.standing ≡ length c.args.standing.now = omega arith in
    let f = rw (kw, c.in-Some.is) at c.bring-one.ensures.tries in
    λ t. gone-further _ (omega arith) (loop.invariant t) (f t)

pub returns : goal.returns
returns c = record {
  most = omega arith;
  stops = λ h. absurd (omega arith);
  gone = λ h t. rw (take_all c.loop-i.i c.args.way.now (omega arith)) at (c.loop-i.invariant t);
}
