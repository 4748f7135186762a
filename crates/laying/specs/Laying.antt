-- What a map reads as, what is answered, and what stands in the lent list at the end.
-- Assumes nothing.
use Rattle.std.specs.Prelude.{Bool, true, false, List, ◌≡◌, ℕ, ltb, length}
use Rattle.std.proofs.lemmas.List.Edits.{sets}
use Rattle.paper.specs.Yard.{Bay}
use Rattle.paper.specs.Docket.{Refusal, room, no_14, Verdict, granted, denied}
use Rattle.paper.specs.Text.{Read, good, bad_line}
use Rattle.paper.specs.Map.{Grid, bay_count, rail_ends}

-- so many numbers are written, or do not fit: "the result is longer than the lent list"
abbrev pub fitting : Bool → ℕ → Verdict
fitting true needed = denied (room needed)
fitting false needed = granted needed

-- the list lent after that
abbrev pub fitted : Bool → List ℕ → List ℕ → List ℕ
fitted true before l = before
fitted false before l = sets before 0 l

-- the number of bays and the ends of the rails; or 14
pub data Laid : Type 0 where
  laid : ℕ → List Bay → Laid
  unlaid : Refusal → Laid

abbrev pub laying : Read Grid → Laid
laying (good G) = laid (bay_count G) (rail_ends G)
laying (bad_line l) = unlaid (no_14 l)

abbrev pub laid_verdict : ℕ → Laid → Verdict
laid_verdict lent (laid n ends) = fitting (ltb lent (length ends)) (length ends)
laid_verdict lent (unlaid r) = denied r

abbrev pub none_or : Bool → ℕ → ℕ
none_or true n = 0
none_or false n = n

-- the bays told, 0 on any refusal
abbrev pub laid_bays : ℕ → Laid → ℕ
laid_bays lent (laid n ends) = none_or (ltb lent (length ends)) n
laid_bays lent (unlaid r) = 0

abbrev pub laid_rails : List ℕ → Laid → List ℕ
laid_rails before (laid n ends) = fitted (ltb (length before) (length ends)) before ends
laid_rails before (unlaid r) = before

pub record MapSays (x : Laid) (before : List ℕ) (answer : Verdict) (bays : ℕ) (after : List ℕ) : Type 0 where
  pub answers : answer ≡ laid_verdict (length before) x
  pub bays_then : bays ≡ laid_bays (length before) x
  pub leaves : after ≡ laid_rails before x
