use Rattle.std.specs.Prelude.{Option}
use Rattle.lines.specs.declared.Line.{Line}

abbrev pub FoundLine : Type 0
FoundLine = Option Line
