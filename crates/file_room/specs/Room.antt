-- How many first bytes of a map and of a scenario decide what they read as.
-- Assumes nothing.
use Rattle.std.specs.Prelude.{ℕ, ◌+◌, ◌*◌}
use Rattle.paper.specs.Limits.{most_carriers}

-- one byte more than the longest map and the longest scenario that keep their layout: 64 rows of 64 letters, and most_carriers carriers with each
-- field at its longest, all lines with CR LF
abbrev pub map_bytes : ℕ
map_bytes = 4264

abbrev pub scenario_bytes : ℕ
scenario_bytes = 14 + most_carriers * 193
