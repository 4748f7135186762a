-- Playing a plan backwards: the reverse of a lent list, what reversing answers, and what it leaves in the lent room.
-- Assumes nothing.
use Rattle.std.specs.Prelude.{List, ◌++◌, map, ℕ, ltb, length, drop}
use Rattle.std.proofs.Math.Option.{Option}
use Rattle.paper.specs.Basics.{if_some◌then◌else◌, or_else, when, highest_of}
use Rattle.paper.specs.Yard.{Crossing, reverse_of, pack, crossings, most_crossings}
use Rattle.paper.specs.Dependence.{slots}
use Rattle.paper.specs.Docket.{Refusal, size, Verdict, unless_denied, no_8}

-- "crossings in reverse order, from and to exchanged": the list of their numbers
unfoldable pub reversed : List ℕ → List ℕ
reversed list = map pack (reverse_of (crossings list))

-- 1 for a lent list over the limit, then 8 for a room of so many places. The list's content is asked nothing.
unfoldable pub reverse_refusal : List ℕ → ℕ → Option Refusal
reverse_refusal list room = or_else (when (ltb most_crossings (length list)) size) (no_8 room (length list))

-- granted with the length written
unfoldable pub reversing : List ℕ → ℕ → Verdict
reversing list room = unless_denied (reverse_refusal list room) (length list)

-- A refusal changes no lent list; acceptance writes the reverse and nothing beyond its length.
unfoldable pub reversing_end : List ℕ → List ℕ → List ℕ
reversing_end list out = if_some reverse_refusal list (length out) then (λ r. out) else (reversed list ++ drop (length list) out)

-- the highest slot that a list of crossings uses, 0 for the empty list
abbrev pub highest_slot : List Crossing → ℕ
highest_slot xs = highest_of (slots xs)
