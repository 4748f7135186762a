-- How what the code keeps of a line reads as what the definitions keep of it.
-- Assumes nothing.
use Rattle.paper.specs.Bytes.{Match, Field, Past}
use Rattle.fields.specs.declared.TextSeen.{TextSeen}
use Rattle.fields.specs.declared.FieldSeen.{FieldSeen}
use Rattle.fields.specs.declared.FieldsPast.{FieldsPast}

abbrev pub match_of : TextSeen → Match
match_of t = record { place = t.place; agrees = t.agrees }

abbrev pub seen_of : FieldSeen → Field
seen_of f = record { place = f.place; number = f.number; digits = f.digits; point = f.point; plain = f.plain; figure = f.figure }

abbrev pub past_of : FieldsPast → Past
past_of p = record { index = p.index; well = p.well; sx = p.sx; sy = p.sy; gx = p.gx; gy = p.gy }
