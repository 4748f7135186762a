-- `program::shorten_planned` meets its contract. Each way out is one law of proofs/Shortening.
use Rattle.std.proofs.Common.{sym, arith, length-take-le, rules}
use Rattle.program.proofs.Shortening.{enough, marked, left-short, refusal-stays}
use Rattle.program.proofs.shorten_planned.Goals as goal

pub slice_bounds-shorten-end : goal.slice_bounds-shorten-end
slice_bounds-shorten-end c =
    sym (length-take-le _ _ (c.requires.0.within.inside _ c.in-Ok.is))

pub slice_bounds-marks-end : goal.slice_bounds-marks-end
slice_bounds-marks-end c =
    omega (arith, c.requires.0.within.inside _ c.in-Ok.is, c.requires.0.sized)

pub slice_bounds-shorten-end-in-Ok : goal.slice_bounds-shorten-end-in-Ok
slice_bounds-shorten-end-in-Ok c = sym (enough _ (omega (arith, c.requires.0.within.inside _ c.in-Ok.is, c.requires.0.sized)))

pub returns-in-Ok : goal.returns-in-Ok
returns-in-Ok c =
    left-short c.requires.0 _ c.in-Ok.is _ (marked c.requires.0 _ c.in-Ok.is) _ c.requires.1 c.shorten.ensures

pub returns-in-Err : goal.returns-in-Err
returns-in-Err c =
    refusal-stays c.requires.0 _ c.in-Err.is c.requires.1
