use Rattle.std.specs.Prelude.{Result}
use Rattle.docket.specs.declared.Carrier.{Carrier}

abbrev pub Counted : Type 0
Counted = Result Unit Carrier
