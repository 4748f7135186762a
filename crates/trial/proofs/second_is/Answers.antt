-- `trial::second_is` meets its contract. A path of one bay has no second bay.
use Rattle.std.proofs.Common.{◌≡◌, true, false, arith, length, lt-ltb, le-ltb, ltb, rules}
use Rattle.paper.specs.Basics.{◌and◌}
use Rattle.trial.proofs.second_is.Goals as goal

pub returns-then-path-lt2 : goal.returns-then-path-lt2
unfolding ◌and◌
returns-then-path-lt2 c = let h : ltb 1 (length c.args.path.now) ≡ false = le-ltb 1 (length c.args.path.now) (omega (arith, c.if-path-lt2.true)) in rw h

pub returns : goal.returns
unfolding ◌and◌
returns c =
    let h : ltb 1 (length c.args.path.now) ≡ true = lt-ltb 1 (length c.args.path.now) (omega (arith, c.if-path-lt2.false)) in rw h
