-- What shortening asks for once a plan has passed the check and its marks are fresh, and what its working room must be.
-- Assumes nothing.
use Rattle.std.specs.Prelude.{◌≡◌, List, ℕ, ◌≤◌, ◌*◌, length, replicate}
use Rattle.paper.specs.Limits.{most_bays, most_crossings}
use Rattle.paper.specs.Yard.{crossings}
use Rattle.paper.specs.OnePass.{Fits}
use Rattle.chains.specs.Links.{links_each}
use Rattle.dropping.specs.Going.{Lawful}

-- the crossings that the less rooms hold
abbrev pub few_crossings : ℕ
few_crossings = 4096

abbrev pub some_crossings : ℕ
some_crossings = 16384

abbrev pub many_crossings : ℕ
many_crossings = 32768

-- a plan of at most n crossings
pub record PlanAsks (plan : List ℕ) (n : ℕ) : Type 0 where
  pub lawful : Lawful (crossings plan)
  pub short : length plan ≤ n
  pub fits : Fits most_bays most_bays plan

-- Nothing is dropped yet; there are links for each crossing, and the set has a bit for each.
pub record RoomAsks (plan gone todo links : List ℕ) : Type 0 where
  pub asked : PlanAsks plan most_crossings
  pub fresh : gone ≡ replicate (length plan) 0
  pub room : length plan ≤ 64 * length todo
  pub held : 64 * length todo ≤ most_crossings
  pub links_long : length links ≡ length plan * links_each
