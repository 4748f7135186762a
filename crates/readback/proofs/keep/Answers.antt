-- `readback::keep` meets its contract, by what the line says.
use Rattle.std.proofs.Common.{refl, rules}
use Rattle.stores.proofs.Stores.{wrote_none}
use Rattle.readback.proofs.keep.Goals as goal

pub returns-in-Number : goal.returns-in-Number
returns-in-Number c = rw c.in-Number.is (record { left = c.store.ensures; counted = refl })

pub returns-in-Comment : goal.returns-in-Comment
returns-in-Comment c = rw c.in-Comment.is (wrote_none _ _)

pub returns-in-Broken : goal.returns-in-Broken
returns-in-Broken c = rw c.in-Broken.is (wrote_none _ _)
