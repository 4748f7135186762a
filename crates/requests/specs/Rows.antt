-- The order of testing of the functions that document 02 asks for: their rows, in its words. Those that stand on a plan and marks test first
-- what a report tests up to 11.
-- Assumes nothing.
use Rattle.std.specs.Prelude.{List, [], ◌∷◌, ◌++◌, ◌⊎◌, ◌≡◌, ℕ, ◌<◌, ◌≤◌, length, get_or}
use Rattle.paper.specs.Limits.{most_carriers}
use Rattle.paper.specs.Yard.{Bay, Carrier, most_crossings, crossings}
use Rattle.paper.specs.Order.{Order, order}
use Rattle.paper.specs.Print.{print_plan}
use Rattle.exactly.specs.First.{Row, plain, carrying, FirstOf}
use Rattle.exactly.specs.Words.{WrongSize, FirstBadRail, LowestApart, mark, NotInPlan, LowestUndone}
use Rattle.exactly.specs.Rows.{no_room, already_number, slots_rows, mark_rows}
use Rattle.trips.specs.Trips.{shorten}
use Rattle.bills.specs.Billing.{record_of, lines_of}
use Rattle.bills.specs.declared.Record.{Record}
use Rattle.bills.specs.declared.Line.{Line}
use Rattle.comparing.specs.Comparing.{carrier_of}
use Rattle.survey.specs.Survey.{survey_of}
use Rattle.paper.specs.Text.{Text}
use Rattle.link.specs.Link.{piece_bytes}
use Rattle.link.specs.declared.Link.{Link}

-- ## On a plan and marks

module _ (o : Order) (plan marks : List ℕ) where
  -- "25 if any mark is 1"
  abbrev pub Begun : Type 0
  Begun = (i : ℕ) × (i < length marks) × (mark marks i ≡ 1)

  -- "as the check, 11, then 25 if any mark is 1, then 8"
  abbrev pub shorten_rows : ℕ → List Row
  shorten_rows lent = mark_rows o plan marks ++ (plain 25 Begun ∷ no_room lent (length (shorten (crossings plan))) ∷ [])

  -- "otherwise opening answers 8 carrying k, after 11": the line list has not exactly k entries
  abbrev pub open_rows : ℕ → List Row
  open_rows lent = mark_rows o plan marks ++ (carrying 8 (λ v. (v ≡ length o.starts) × (lent ≡ length o.starts → ⊥)) ∷ [])

  -- "record and lines equal what plan, start and marks give worked out afresh"
  abbrev pub Afresh : Record → List Line → Type 0
  Afresh rec lines = (rec ≡ record_of o.starts (crossings plan) marks) × (lines ≡ lines_of (length o.starts) (crossings plan) marks)

  -- "19, record disagrees, after 11 and before 12"; then as a report
  abbrev pub billed_rows : Record → List Line → ℕ → List Row
  billed_rows rec lines name =
      mark_rows o plan marks
      ++ (plain 19 (Afresh rec lines → ⊥)
      ∷ plain 12 (NotInPlan (crossings plan) name)
      ∷ plain already_number (mark marks name ≡ 1)
      ∷ carrying 13 (LowestUndone (crossings plan) marks name)
      ∷ [])

  -- where the carriers stand: up to 11, then 8 carrying the number of carriers if the lent list is shorter
  abbrev pub standing_rows : ℕ → List Row
  standing_rows lent = mark_rows o plan marks ++ (carrying 8 (λ v. (v ≡ length o.starts) × (lent < length o.starts)) ∷ [])

-- ## Slots by an edition

-- "20, unknown edition, tested before all others"; then as slots
abbrev pub edition_rows : Order → List ℕ → ℕ → ℕ → List Row
edition_rows o plan e lent = plain 20 ((e ≡ 1 → ⊥) × (e ≡ 2 → ⊥)) ∷ slots_rows o plan lent

-- ## Lists of crossings alone

-- playing backwards: 1 and 8
abbrev pub reverse_rows : List ℕ → ℕ → List Row
reverse_rows list lent = plain 1 (most_crossings < length list) ∷ no_room lent (length list) ∷ []

-- the print of any list of crossings: 1, then 8 with the bytes that the print takes
abbrev pub print_rows : List ℕ → ℕ → List Row
print_rows list lent =
    let needed = length (print_plan (crossings list)) in
    plain 1 (most_crossings < length list) ∷ carrying 8 (λ v. (v ≡ needed) × (lent < needed)) ∷ []

-- "the first carrier number above 253" of a list
abbrev pub FirstAbove : List ℕ → Carrier → Type 0
FirstAbove list c = (i : ℕ) × FirstOf (length list) (λ j. most_carriers ≤ carrier_of (get_or list j 0)) i × (carrier_of (get_or list i 0) ≡ c)

-- "first list first"
abbrev pub AboveInEither : List ℕ → List ℕ → Carrier → Type 0
AboveInEither first second c = FirstAbove first c ⊎ (((d : Carrier) → FirstAbove first d → ⊥) × FirstAbove second c)

-- comparing: "1, a list over 65,536 crossings; 5, with the first carrier number above 253, first list first; 8, carrying 254, if the lent
-- list has another length"
abbrev pub compare_rows : List ℕ → List ℕ → ℕ → List Row
compare_rows first second lent =
    plain 1 ((most_crossings < length first) ⊎ (most_crossings < length second))
    ∷ carrying 5 (AboveInEither first second)
    ∷ carrying 8 (λ v. (v ≡ most_carriers) × (lent ≡ most_carriers → ⊥))
    ∷ []

-- ## Surveyors' files

-- "1 to 3 as before", of a yard with no carriers
abbrev pub three_rows : ℕ → List Bay → List Row
three_rows n ends = let o = order n ends [] [] in plain 1 (WrongSize o 0) ∷ carrying 2 (FirstBadRail n ends) ∷ carrying 3 (LowestApart o) ∷ []

-- "then 8": in rail ends for reading, in bytes for writing
abbrev pub survey_rows : ℕ → List Bay → ℕ → List Row
survey_rows n ends lent = three_rows n ends ++ (no_room lent (length ends) ∷ [])

abbrev pub writing_rows : ℕ → List Bay → ℕ → List Row
writing_rows n ends lent = three_rows n ends ++ (no_room lent (length (survey_of n ends)) ∷ [])

-- ## The serial link

-- "Refusals, in order: 17, ended; 18, piece over 256 bytes."
abbrev pub piece_rows : Link → Text → List Row
piece_rows l bytes = plain 17 (l.phase ≡ 1 → ⊥) ∷ plain 18 (piece_bytes < length bytes) ∷ []
