-- The limits of a yard and of a plan, in the document's words. They stand here and, for the code, in src/lib.rt: `yard::Yard::limits` proves that
-- the two agree.
-- Assumes nothing.
use Rattle.std.specs.Prelude.{ℕ, ◌-◌, ◌/◌}

-- n from 2 to 256
abbrev pub fewest_bays : ℕ
fewest_bays = 2

abbrev pub most_bays : ℕ
most_bays = 256

-- the 64-bit words of a set of bays; a set has a bit for each bay, and no bit more
abbrev pub set_words : ℕ
set_words = most_bays / 64

-- at most 1,024 rails
abbrev pub most_rails : ℕ
most_rails = 1024

-- two bays must stay empty
abbrev pub kept_empty : ℕ
kept_empty = 2

-- "A 255th carrier line is 15."
abbrev pub most_carriers : ℕ
most_carriers = most_bays - kept_empty

-- at most 65,536 crossings in a plan
abbrev pub most_crossings : ℕ
most_crossings = 65536
