use Rattle.std.proofs.Common.{ℕ, arith}
use lib.ListN.{length-replicate}
use Rattle.words.proofs.Sets.{mem-zeros}
use Rattle.checker.proofs.check_by.Goals as goal

pub check_in-requires : goal.check_in-requires
check_in-requires g c =
    let long = length-replicate {A = ℕ} g.row.TABLE 0 in
    (omega (arith, c.requires.0), omega (arith, long), λ few. omega (arith, c.requires.1 few), mem-zeros g.row.TABLE)
