-- The number goes where the text ended.
use Rattle.stores.proofs.Stores.{wrote_then}
use Rattle.put_bytes.specs.Named.{named}
use Rattle.put_bytes.proofs.put_named.Goals as goal

pub returns : goal.returns
unfolding named
returns c = wrote_then c.put_text-end.ensures c.put_number.ensures
