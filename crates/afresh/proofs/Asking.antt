-- Why a pass over the plan meets the slot of the name asked for: before its turn the slot stands ahead, and from then on it is kept.
use Rattle.std.specs.Prelude.{if◌then◌else◌}
use mathlib.Core.Path.{◌≡◌, ◌∙◌}
use mathlib.Core.List.{List}
use Prim.Native.Nat.{ℕ, ◌≤◌, ◌<◌, ◌+◌}
use native.Mathlib.Omega.{arith}
use borrow.Author.Tests.{eqb-true, eqb-false}
use lib.Dec.{eqb}
use lib.ListN.{length, get_or, replicate}
use Rattle.paper.specs.Limits.{most_bays}
use Rattle.paper.specs.Yard.{Crossing, crossings, named}
use Rattle.paper.specs.Dependence.{slots}
use Rattle.paper.specs.OnePass.{Fits}
use Rattle.paper.proofs.Tests.{by_cases}
use Rattle.slots.specs.Turn.{Turned}
use Rattle.slots.proofs.Reaching.{Reaching, reaching-start, reaching-on, reaching-end}

pub record Asking (plan : List ℕ) (name : ℕ) (carriers bays : List ℕ) (asked i : ℕ) : Type 0 where
  pub ahead : name < length plan → i ≤ name → Reaching plan name carriers bays i
  pub met : name < length plan → name < i → asked ≡ get_or (slots (crossings plan)) name 0

pub asking-start : (plan : List ℕ) (name : ℕ) → Asking plan name (replicate most_bays 0) (replicate most_bays 0) 0 0
asking-start plan name = record { ahead = λ inside h. reaching-start plan name; met = λ inside h. absurd (omega arith) }

pub asking-on : (plan : List ℕ) (name : ℕ) (carriers bays : List ℕ) (asked i : ℕ) → Asking plan name carriers bays asked i
    → Fits most_bays most_bays plan → (x : Crossing) → x ≡ named (crossings plan) i
    → (s : ℕ) (carriers' bays' : List ℕ) → Turned carriers bays x s carriers' bays'
    → (kept : ℕ) → kept ≡ (if eqb name i then s else asked) → Asking plan name carriers' bays' kept (i + 1)
asking-on plan name carriers bays asked i a fits x is s carriers' bays' turned kept e = record {
  ahead = λ inside h. reaching-on plan name carriers bays i (a.ahead inside (omega arith)) inside fits x is s carriers' bays' turned (omega arith);
  met = λ inside h.
      by_cases (eqb name i)
      (λ z.
      let here = eqb-true name i z in
      let k : kept ≡ s = e ∙ rw z in
      k ∙ reaching-end plan name carriers bays i (a.ahead inside (omega (arith, here))) inside fits x is s carriers' bays' turned (omega (arith, here)))
      (λ z.
      let other = eqb-false name i z in
      let k : kept ≡ asked = e ∙ rw z in
      k ∙ a.met inside (omega (arith, h, other)));
}
