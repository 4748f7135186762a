-- `trial::try_along` meets its contract. The path is the paper's, and there is one.
use Rattle.std.proofs.Common.{◌≡◌, sym, refl, arith, length, take, length-take-le, rules}
use Rattle.words.specs.Sets.{span}
use Rattle.trial.proofs.Copying.{path-found, path-missing, free_shown}
use Rattle.trial.proofs.try_along.Goals as goal

pub path_between-requires : goal.path_between-requires
path_between-requires c =
    let p = c.requires.ready in
    let z = c.requires.trial_asks in
    record {
      lent = record { most = p.most; table_size = omega (arith, p.table_size); held_size = refl; shown = free_shown p.tabled };
      start_inside = p.placed.inside c.args.trial.carrier.0 z.first;
      goal_inside = z.inside;
      room = omega (arith, p.most);
    }

pub returns-in_err-k : goal.returns-in_err-k
returns-in_err-k c = rw c.from_residual.ensures (record { few = tt; attempts = λ t near. path-missing near (rw c.in_err-k.was at (c.path_between.ensures.found (free_shown t))).same })

pub slice_bounds-path-end : goal.slice_bounds-path-end
slice_bounds-path-end c =
    let path-between = c.path_between in
    let p = c.requires.ready in
    let f = rw c.in_ok-k.was at (path-between.ensures.found (free_shown p.tabled)) in
    let kept : length path-between.new.path ≡ span = path-between.auto.path in
    omega (arith, f.fits, p.most, kept)

pub slice_bounds-try_on-end : goal.slice_bounds-try_on-end
slice_bounds-try_on-end c =
    let path-between = c.path_between in
    let p = c.requires.ready in
    let f = rw c.in_ok-k.was at (path-between.ensures.found (free_shown p.tabled)) in
    let kept : length path-between.new.path ≡ span = path-between.auto.path in
    sym (length-take-le _ _ (omega (arith, f.fits, p.most, kept)))

pub try_on-requires : goal.try_on-requires
try_on-requires c =
    let path-between = c.path_between in
    let p = c.requires.ready in
    let z = c.requires.trial_asks in
    let f = rw c.in_ok-k.was at (path-between.ensures.found (free_shown p.tabled)) in
    let kept : length path-between.new.path ≡ span = path-between.auto.path in
    let len : length (take c.in_ok-k.k path-between.new.path) ≡ c.in_ok-k.k = length-take-le _ _ (omega (arith, f.fits, p.most, kept)) in
    let q = path-found p.tabled _ _ _ (p.placed.inside c.args.trial.carrier.0 z.first) z.inside f.same in
    record { ready = p; trial_on_asks = record { asks = z; bays_inside = q.2; short = omega (arith, len, f.fits, p.most); some_bays = q.1 } }

pub returns : goal.returns
returns c =
    let path-between = c.path_between in
    let p = c.requires.ready in
    let z = c.requires.trial_asks in
    record {
      few = c.try_on.ensures.few;
      attempts = λ t near. c.try_on.ensures.attempts t near (path-found t _ _ _ (p.placed.inside c.args.trial.carrier.0 z.first) z.inside (rw c.in_ok-k.was at (path-between.ensures.found (free_shown t))).same).0;
    }
