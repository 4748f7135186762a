-- `moving::store` meets its contract. Setting a place past the end changes nothing, so both branches set the number.
use Rattle.std.proofs.Common.{refl, sym, rules}
use lib.Seq.{set_out}
use Rattle.moving.proofs.store.Goals as goal

pub returns : goal.returns
returns c = (sym (set_out _ _ _ c.if-at-out.false), refl)
