-- The most crossings that each part of the procedure makes, by the limit of bays, and how many may be counted where one is stored.
-- Assumes nothing.
use Rattle.std.specs.Prelude.{ℕ, ◌+◌, ◌*◌, ◌^◌}
use Rattle.words.specs.Sets.{span}

-- ## The most crossings

-- A vacate moves the carriers on a path by one bay each, and a path has no bay twice.
abbrev pub vacate_most : ℕ
vacate_most = span

-- One bay of a bring is vacated, then leader and follower cross.
abbrev pub entry_most : ℕ
entry_most = vacate_most + 2

-- A bring enters the bays of a path, which has no bay twice.
abbrev pub bring_most : ℕ
bring_most = entry_most * span

-- Once through the neighbours, two bays are vacated.
abbrev pub clear_once_most : ℕ
clear_once_most = 2 * vacate_most

-- An attempt vacates two bays, and the second way has two carriers go forth and back.
abbrev pub attempt_most : ℕ
attempt_most = clear_once_most + 4

-- Clearing is once through the neighbours, then the attempt that succeeds.
abbrev pub clear_most : ℕ
clear_most = clear_once_most + attempt_most

-- A trial brings and clears.
abbrev pub set_up_most : ℕ
set_up_most = bring_most + clear_most

-- Then it exchanges by six crossings and undoes the rest. A step makes no more than a swap.
abbrev pub swap_most : ℕ
swap_most = 2 * set_up_most + 6

-- A carrier steps along a path, and the way home is along the same path.
abbrev pub carrier_most : ℕ
carrier_most = 2 * (swap_most * span)

-- ## Room to count

-- A count has 64 bits. Where a crossing is stored, fewer are counted than this, so that the count does not have to stop for want of bits. Each part of
-- the procedure is lent the rest of the list and counts from nothing: no part makes as many.
abbrev pub room_crossing : ℕ
room_crossing = 2 ^ 63
