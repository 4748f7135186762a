-- What 1 to 6 leave to the rest of the check: a refusal is the check's own; where there is none the carriers are few, starts and goals are bays
-- of the yard, one carrier to a bay, and 9 and 10 decide.
use mathlib.Core.Path.{◌≡◌, sym}
use mathlib.Core.List.{List}
use mathlib.Core.Option.{Option, none, some}
use Prim.Native.Nat.{ℕ, ◌≤◌, ◌<◌}
use native.Mathlib.Omega.{arith}
use lib.ListN.{length}
use Rattle.paper.specs.Yard.{Carrier, Placement, bay_of, crossings}
use Rattle.paper.specs.Order.{Order}
use Rattle.paper.specs.Docket.{Refusal, yard_of}
use Rattle.paper.specs.Answers.{first_six, check}
use Rattle.paper.proofs.Members.{count-high}
use Rattle.paper.proofs.Playing.{Good}
use Rattle.paper.proofs.Admitted.{Clean, clean_of, good_of}
use Rattle.words.specs.Sets.{span}
use Rattle.yard.specs.Table.{Table}
use Rattle.checker.specs.Reading.{NineTen}

module _ (o : Order) (plan : List ℕ) where
  pub six-refused : (r : Refusal) → some r ≡ first_six o (length plan) → some r ≡ check o plan
  unfolding check
  six-refused r h = rw (← h)

  module _ (passes : none ≡ first_six o (length plan)) where
    clean : Clean o (length plan)
    clean = clean_of o (length plan) (sym passes)

    good : Good (yard_of o) o.starts
    good = good_of o o.starts clean.starts

    in-yard : (p : Placement) → Good (yard_of o) p → (c : Carrier) → c < length p → bay_of p c < o.bays
    in-yard p g c k = omega (arith, count-high 0 o.bays (bay_of p c) (g.inside c k))

    pub few_bays : o.bays ≤ span
    few_bays = clean.sizes.few_bays

    pub as_many : length o.starts ≡ length o.goals
    as_many = clean.sizes.same_length

    pub few-carriers : length o.goals ≤ span
    few-carriers = omega (arith, clean.sizes.same_length, clean.uncrowded, clean.sizes.few_bays)

    pub starts-in-yard : (c : Carrier) → c < length o.starts → bay_of o.starts c < o.bays
    starts-in-yard = in-yard o.starts good

    pub starts_inside : (c : Carrier) → c < length o.starts → bay_of o.starts c < span
    starts_inside c k = omega (arith, starts-in-yard c k, few_bays)

    pub goals_inside : (c : Carrier) → c < length o.goals → bay_of o.goals c < span
    goals_inside c k = omega (arith, in-yard o.goals (good_of o o.goals clean.goals) c k, few_bays)

    pub six-passed : (rows : ℕ) (table : List ℕ) → Table (yard_of o) o.bays table → o.bays ≤ rows → (answer : Option Refusal)
        → NineTen rows table o.starts o.goals (crossings plan) answer → answer ≡ check o plan
    unfolding check
    six-passed rows table laid enough answer rest = rw (← passes) (rest (yard_of o) laid enough good)
