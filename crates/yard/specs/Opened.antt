use Rattle.std.specs.Prelude.{Result}
use Rattle.docket.specs.declared.Refusal.{Refusal}
use Rattle.yard.specs.declared.Yard.{Yard}

abbrev pub Opened : Type 0
Opened = Result Yard Refusal
