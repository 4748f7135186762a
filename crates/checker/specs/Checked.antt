use Rattle.std.specs.Prelude.{Result}
use Rattle.docket.specs.declared.Refusal.{Refusal}

abbrev pub Checked : Type 0
Checked = Result Unit Refusal
