-- What is handed out of an outcome of the procedure: 7, 8 or the plan, and what is left in the lent list.
-- Assumes nothing.
use Rattle.std.specs.Prelude.{◌≡◌, List, map, ℕ, ◌≤◌, length, take, Err, Ok}
use Rattle.paper.specs.Procedure.{Made, Outcome, planned}
use Rattle.paper.specs.Yard.{Placement, pack, most_crossings}
use Rattle.paper.specs.Docket.{Refusal}
use Rattle.paper.specs.Answers.{Answer, accepted, refused, parked_of, within, beside, written}
use Rattle.docket.specs.Reading.{refusal_of}
use Rattle.acting.specs.declared.Tally.{Tally}
use Rattle.play.specs.Playing.{OfProcedure}
use Rattle.outcome.specs.Counted.{Counted}
use Rattle.outcome.specs.declared.Handed.{Handed}
use Rattle.outcome.specs.declared.Handed.TheVariants.{Done, Longer}

-- what is told of an answer: the plan's length, for the plan itself is in the lent list; or the refusal
pub data PlanTold : Type 0 where
  long : ℕ → PlanTold
  denied : Refusal → PlanTold

abbrev pub told : Answer → PlanTold
told (accepted xs) = long (length xs)
told (refused r) = denied r

abbrev pub counted_of : Counted → PlanTold
counted_of (Ok (m, k)) = long m
counted_of (Err r) = denied (refusal_of r)

-- the count: 0 beside a refusal
abbrev pub parked_by : Counted → ℕ
parked_by (Ok (m, k)) = k
parked_by (Err r) = 0

-- the outcome is a plan of so many crossings, and these are the first of them; its count is exact unless the plan is too long
pub record PlanIn (o : Outcome) (kept : List ℕ) (m : Tally) : Type 0 where
  pub made : Made
  pub outcome : o ≡ planned made
  pub counted : m.crossings ≡ length made.moves
  pub parks : m.crossings ≤ most_crossings → m.parked ≡ made.parked
  pub stored : m.crossings ≤ length kept → take m.crossings kept ≡ map pack made.moves

-- 7, 8 or the plan, for a list of so many places
pub record Hands (o : Outcome) (lent : List ℕ) (answer : Counted) (lent' : List ℕ) : Type 0 where
  pub answers : counted_of answer ≡ told (within (length lent) o)
  pub parks : parked_by answer ≡ beside (within (length lent) o) (parked_of o)
  pub leaves : lent' ≡ written (within (length lent) o) lent

-- a plan of so many crossings and that count is due: neither 7 nor 8 refuses it
pub record Due (o : Outcome) (lent : List ℕ) (m parked : ℕ) : Type 0 where
  pub made : Made
  pub outcome : o ≡ planned made
  pub counted : m ≡ length made.moves
  pub parks : parked ≡ made.parked
  pub fits : m ≤ length lent
  pub few : m ≤ most_crossings

-- 7, 8 or the plan where it was kept whole; else it is due, and the list is as it was
pub record HandsIfKept (o : Outcome) (lent : List ℕ) (answer : Handed) (lent' : List ℕ) : Type 0 where
  pub done : (a : Counted) → answer ≡ Done a → Hands o lent a lent'
  pub longer : (m parked : ℕ) → answer ≡ Longer m parked → (lent' ≡ lent) × Due o lent m parked

-- ## Of the procedure on a table of n bays, from starts to goals

-- 7, 8 or the plan
abbrev pub HandsOut : (n : ℕ) (table : List ℕ) (s g : Placement) (lent : List ℕ) → Counted → (lent' : List ℕ) → Type 0
HandsOut n table s g lent answer lent' = OfProcedure n table s g (λ o. Hands o lent answer lent')

-- the same where it was kept whole; else it is due
abbrev pub HandsOutKept : (n : ℕ) (table : List ℕ) (s g : Placement) (lent : List ℕ) → Handed → (lent' : List ℕ) → Type 0
HandsOutKept n table s g lent answer lent' = OfProcedure n table s g (λ o. HandsIfKept o lent answer lent')

-- 7, 8 or the plan, if one of so many crossings and that count is due
abbrev pub HandsOutDue : (n : ℕ) (table : List ℕ) (s g : Placement) (m parked : ℕ) (lent : List ℕ) → Counted → (lent' : List ℕ) → Type 0
HandsOutDue n table s g m parked lent answer lent' = OfProcedure n table s g (λ o. Due o lent m parked → Hands o lent answer lent')
