-- The pass over plan and marks, turn by turn: its four parts go on side by side.
use Rattle.std.specs.Prelude.{if◌then◌else◌}
use mathlib.Core.Path.{◌≡◌}
use mathlib.Core.List.{List}
use Prim.Native.Nat.{ℕ, ◌≤◌, ◌<◌, ◌+◌, max}
use native.Mathlib.Omega.{arith}
use mathlib.Core.Bool.{true, false}
use borrow.Author.Tests.{eq-eqb, ne_eqb}
use lib.Dec.{eqb}
use lib.ListN.{length, get_or, set, replicate}
use Rattle.paper.specs.Limits.{most_bays}
use Rattle.paper.specs.Yard.{Placement, Crossing, crossings, named, most_crossings}
use Rattle.paper.specs.Dependence.{done}
use Rattle.paper.specs.OnePass.{Fits}
use Rattle.plans.proofs.Rest.{fits-named}
use Rattle.slots.specs.Turn.{Turned}
use Rattle.bills.specs.Billing.{untouched}
use Rattle.afresh.specs.Working.{Led, Billed}
use Rattle.afresh.proofs.Passing.{Billing, billing-start, billing-done, billing-undone, billing-counts, billing-names}
use Rattle.afresh.proofs.Highest.{Rising, rising-start, rising-on, rising-end}
use Rattle.afresh.proofs.Asking.{Asking, asking-start, asking-on}
use Rattle.afresh.proofs.Leading.{Standing, standing-start, standing-done, standing-undone, standing-end}

pub record Working (plan marks : List ℕ) (name : ℕ) (at : Placement) (billed last carriers bays : List ℕ) (highest asked i : ℕ) : Type 0 where
  pub rising : Rising plan marks carriers bays highest i
  pub asking : Asking plan name carriers bays asked i
  pub billing : Billing plan marks billed last i
  pub standing : Standing plan marks at last i

pub working-start : (plan marks : List ℕ) (name : ℕ) (at : Placement) → length plan ≤ most_crossings
    → Working plan marks name at (replicate most_bays 0) (replicate most_bays untouched) (replicate most_bays 0) (replicate most_bays 0) 0 0 0
working-start plan marks name at short = record {
  rising = rising-start plan marks;
  asking = asking-start plan name;
  billing = billing-start plan marks;
  standing = standing-start plan marks at short;
}

module _ (plan marks : List ℕ) (len : length marks ≡ length plan) (fits : Fits most_bays most_bays plan) (name : ℕ) (at : Placement) (long : length at ≡ most_bays)
    (billed last carriers bays : List ℕ) (highest asked i : ℕ) (w : Working plan marks name at billed last carriers bays highest asked i) where
  module _ (more : i < length plan) (x : Crossing) (is : x ≡ named (crossings plan) i) (s : ℕ) (carriers' bays' : List ℕ) (turned : Turned carriers bays x s carriers' bays')
      (kept : ℕ) (k : kept ≡ (if eqb name i then s else asked)) where
    pub working-done : get_or marks i 0 ≡ 1
        → Working plan marks name at (set billed x.carrier (get_or billed x.carrier 0 + 1)) (set last x.carrier i) carriers' bays' (max highest s) kept (i + 1)
    working-done d =
        let counts : done (get_or marks i 0) ≡ true = eq-eqb _ _ d in
        let small = (fits-named most_bays most_bays plan fits i more x is).0 in
        record {
          rising = rising-on plan marks carriers bays highest i w.rising more len fits x is s carriers' bays' turned (max highest s) (rw counts);
          asking = asking-on plan name carriers bays asked i w.asking fits x is s carriers' bays' turned kept k;
          billing = billing-done plan marks len billed last i w.billing more d x is small;
          standing = standing-done plan marks len at long last w.billing.all-last i w.standing more d x is small;
        }

    pub working-undone : (get_or marks i 0 ≡ 1 → ⊥) → Working plan marks name at billed last carriers' bays' highest kept (i + 1)
    working-undone u =
        let counts_not : done (get_or marks i 0) ≡ false = ne_eqb _ _ u in
        record {
          rising = rising-on plan marks carriers bays highest i w.rising more len fits x is s carriers' bays' turned highest (rw counts_not);
          asking = asking-on plan name carriers bays asked i w.asking fits x is s carriers' bays' turned kept k;
          billing = billing-undone plan marks len billed last i w.billing more u;
          standing = standing-undone plan marks len at long last w.billing.all-last i w.standing more u;
        }

  pub working-end : length plan ≤ i → (at' : Placement) → Led plan last at at'
      → Billed plan marks name at at' billed last (record { highest = highest; asked = asked })
  working-end h at' led = record {
    stand = standing-end plan marks len at long last w.billing.all-last i w.standing h at' led;
    counts = billing-counts plan marks len billed last i w.billing h;
    names = billing-names plan marks len billed last i w.billing h;
    highest = rising-end plan marks carriers bays highest i w.rising h;
    asked = λ inside. w.asking.met inside (omega (arith, inside, h));
  }
