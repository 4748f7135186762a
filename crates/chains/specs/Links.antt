-- Five links for each crossing of a plan, by which a search passes over the crossings that cannot be what it looks for.
-- Assumes nothing.
use Rattle.std.specs.Prelude.{◌≡◌, List, [], ℕ, zero, suc, ◌≤◌, ◌<◌, ◌+◌, ◌*◌, eqb, length, get_or, if◌then◌else◌}
use Rattle.paper.specs.Limits.{most_bays, most_crossings}
use Rattle.paper.specs.Yard.{Crossing, crossings, named}
use Rattle.chains.specs.declared.Link.{Link}
use Rattle.chains.specs.declared.Link.TheVariants.{EntersFrom, EntersTo, Own, LeavesTo, LeavesFrom}

-- what a crossing is looked for by: the bay that it enters, the carrier, the bay that it leaves
abbrev pub key_of : ℕ → Crossing → ℕ
key_of kind x = if eqb kind 0 then x.to else (if eqb kind 1 then x.carrier else x.from)

-- from the name i to below j each crossing that has the key is dropped
abbrev pub Passed : List ℕ → List ℕ → ℕ → ℕ → ℕ → ℕ → Type 0
Passed plan gone kind key i j = (k : ℕ) → i ≤ k → k < j → key_of kind (named (crossings plan) k) ≡ key → get_or gone k 0 ≡ 1

-- The links of a crossing: 0 to the next that enters the bay that it leaves, 1 to the next that enters the bay that it enters, 2 to its carrier's
-- next; 3 to the last before it that leaves the bay that it enters, 4 to the last before it that leaves the bay that it leaves.
abbrev pub links_each : ℕ
links_each = 5

abbrev pub place_of : Link → ℕ
place_of EntersFrom = 0
place_of EntersTo = 1
place_of Own = 2
place_of LeavesTo = 3
place_of LeavesFrom = 4

-- what of the crossing itself the link goes by, and what of the others
unfoldable pub own : ℕ → ℕ
own zero = 2
own (suc zero) = 0
own (suc (suc zero)) = 1
own (suc (suc (suc zero))) = 0
own (suc (suc (suc (suc n)))) = 2

unfoldable pub sought : ℕ → ℕ
sought zero = 0
sought (suc zero) = 0
sought (suc (suc zero)) = 1
sought (suc (suc (suc n))) = 2

-- the key that the link goes by
abbrev pub goal : List ℕ → ℕ → ℕ → ℕ
goal plan kind m = key_of (own kind) (named (crossings plan) m)

-- what is found from the name i on: all between is passed, and what is found has the key
pub record Met (plan gone : List ℕ) (kind key i r : ℕ) : Type 0 where
  pub passed : Passed plan gone kind key i r
  pub meets : r < length plan → key_of kind (named (crossings plan) r) ≡ key

-- the same below the name i, where r is one more than the name that is found, or 0
pub record MetBelow (plan gone : List ℕ) (key i r : ℕ) : Type 0 where
  pub passed : Passed plan gone 2 key r i
  pub meets : (u : ℕ) → r ≡ suc u → (named (crossings plan) u).from ≡ key

-- A link up is one less than the name to which it leads, or than the plan's length.
pub record Leads (plan gone : List ℕ) (kind m v : ℕ) : Type 0 where
  pub up : m ≤ v
  pub inside : v < length plan
  pub met : Met plan gone (sought kind) (goal plan kind m) (suc m) (suc v)

-- A link down is one more than the name to which it leads, or 0.
pub record LeadsDown (plan gone : List ℕ) (kind m v : ℕ) : Type 0 where
  pub down : v ≤ m
  pub met : MetBelow plan gone (goal plan kind m) m v

-- Dropping more does not change that, so no link is ever wrong.
pub record Linked (plan gone links : List ℕ) : Type 0 where
  pub short : length plan ≤ most_crossings
  pub long : length links ≡ length plan * links_each
  pub ahead : (kind m : ℕ) → kind < 3 → m < length plan → Leads plan gone kind m (get_or links (m * links_each + kind) 0)
  pub behind : (kind m : ℕ) → 3 ≤ kind → kind < links_each → m < length plan → LeadsDown plan gone kind m (get_or links (m * links_each + kind) 0)

-- ## Making the links

-- the first name from m on that has the key, or the plan's length
pub record Sees (plan : List ℕ) (kind key m r : ℕ) : Type 0 where
  pub low : m ≤ r
  pub high : r ≤ length plan
  pub met : Met plan [] kind key m r

abbrev pub Seen : List ℕ → ℕ → List ℕ → ℕ → Type 0
Seen plan kind seen m = (key : ℕ) → key < most_bays → Sees plan kind key m (get_or seen key 0)

-- one more than the last name below m that leaves the bay, or 0
pub record SeesBelow (plan : List ℕ) (key m r : ℕ) : Type 0 where
  pub high : r ≤ m
  pub met : MetBelow plan [] key m r

abbrev pub SeenBelow : List ℕ → List ℕ → ℕ → Type 0
SeenBelow plan seen m = (key : ℕ) → key < most_bays → SeesBelow plan key m (get_or seen key 0)

-- the links up from the name m on
abbrev pub Ahead : List ℕ → List ℕ → ℕ → Type 0
Ahead plan links m = (kind j : ℕ) → kind < 3 → m ≤ j → j < length plan → Leads plan [] kind j (get_or links (j * links_each + kind) 0)

-- the links down below the name m
abbrev pub Behind : List ℕ → List ℕ → ℕ → Type 0
Behind plan links m = (kind j : ℕ) → 3 ≤ kind → kind < links_each → j < m → LeadsDown plan [] kind j (get_or links (j * links_each + kind) 0)
