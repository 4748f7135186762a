use Rattle.std.specs.Prelude.{Option}
use Rattle.docket.specs.declared.Carrier.{Carrier}

abbrev pub Away : Type 0
Away = Option Carrier
