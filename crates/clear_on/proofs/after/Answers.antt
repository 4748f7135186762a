-- `clear_on::after` meets its contract. What was made before is added.
use Rattle.std.proofs.Common.{rules}
use Rattle.clear_on.proofs.Attempting.{after_both, after-missing}
use Rattle.clear_on.proofs.after.Goals as goal

pub add-requires : goal.add-requires
add-requires c = c.requires.fits _ _ _ c.in_ok-x.was

pub returns : goal.returns
returns c = rw c.in_ok-x.was (after_both c.add.ensures)

pub returns-in_err-x : goal.returns-in_err-x
returns-in_err-x c = rw (c.in_err-x.was, c.from_residual.ensures) after-missing
