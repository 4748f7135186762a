-- `acting::fill` meets its contract. One crossing is a vacate that filled its bay.
use Rattle.std.proofs.Common.{arith, rules}
use Rattle.acting.proofs.Acting.{tallied-filled}
use Rattle.acting.proofs.fill.Goals as goal

pub returns : goal.returns
returns c =
    let cross = c.cross-crossings in
    let told = c.tally_filled.ensures in
    let crossed = cross.ensures in
    λ t. tallied-filled t.yard _ (rw told.0 crossed) (omega arith) (told.1 t)
