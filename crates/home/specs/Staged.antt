use Rattle.std.specs.Prelude.{Result}
use Rattle.docket.specs.declared.Carrier.{Carrier}
use Rattle.acting.specs.declared.Tally.{Tally}

abbrev pub Staged : Type 0
Staged = Result Tally Carrier
