-- Done for all words, it is done for all bays.
use Rattle.std.proofs.Common.{◌<◌, ◌^◌, get_or, arith}
use Rattle.words.proofs.Loops.{done_none, done_more, left-all, left-more, fit_none, fit-more, settled}
use Rattle.words.proofs.settle.Goals as goal

pub loop-i-init : goal.loop-i-init
loop-i-init c = record { ringed = done_none _ _; all_seen = done_none _ _; left = left-all _; fit = fit_none _ }

pub loop-i-preserved : goal.loop-i-preserved
loop-i-preserved c =
    let l = c.loop-i in
    let v = l.invariant in
    let k = v.left.at l.i (omega arith) in
    let f : get_or l.seen l.i 0 < 2 ^ 64 = omega arith in
    record {
      ringed = done_more _ _ _ _ v.ringed (omega arith) (rw k);
      all_seen = done_more _ _ _ _ v.all_seen (omega arith) (rw k);
      left = left-more _ _ _ _ v.left;
      fit = fit-more _ _ v.fit (rw k at f);
    }

pub returns : goal.returns
returns c = let v = c.loop-i.invariant in settled _ _ _ _ _ (omega arith) v.ringed v.all_seen v.fit
