use Rattle.std.specs.Prelude.{Option}
use Rattle.docket.specs.Verdict.{Verdict}

abbrev pub Said : Type 0
Said = Option Verdict
