use Rattle.std.specs.Prelude.{Result}
use Rattle.filing.specs.declared.Order.{Order}
use Rattle.docket.specs.declared.Refusal.{Refusal}

abbrev pub Ordered : Type 0
Ordered = Result Order Refusal
