-- A path has no more bays than the yard, so its part of the room is as long as it.
use Rattle.std.proofs.Common.{◌≡◌, ◌≤◌, length, sym, arith, length-take-le}
use Rattle.words.specs.Sets.{span}
use Rattle.search_cases.proofs.path_is.Goals as goal

pub slice_bounds-path-end : goal.slice_bounds-path-end
slice_bounds-path-end c =
    let t = rw c.in-Some.is at (c.path_between.ensures.found c.requires.4) in
    let kept : length c.path_between.new.path ≡ span = c.path_between.auto.path in
    omega (arith, t.fits, c.requires.0, kept)

pub slice_bounds-eq-end : goal.slice_bounds-eq-end
slice_bounds-eq-end c =
    let t = rw c.in-Some.is at (c.path_between.ensures.found c.requires.4) in
    let kept : length c.path_between.new.path ≡ span = c.path_between.auto.path in
    sym (length-take-le _ _ (omega (arith, t.fits, c.requires.0, kept)))
