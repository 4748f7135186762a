-- Why a pass up to a name gives the name's slot: at each turn that slot stands among the slots still to come, as far on as the name is.
use mathlib.Core.Path.{◌≡◌, sym, ◌∙◌, ap}
use mathlib.Core.List.{List}
use Prim.Native.Nat.{ℕ, suc, ◌≤◌, ◌<◌, ◌+◌, ◌-◌}
use native.Mathlib.Omega.{arith}
use lib.ListN.{length, get_or, replicate}
use Rattle.paper.specs.Limits.{most_bays}
use Rattle.paper.specs.Yard.{Crossing, crossings, named}
use Rattle.paper.specs.Dependence.{slots}
use Rattle.paper.specs.OnePass.{Fits}
use Rattle.slots.specs.Turn.{Turned}
use Rattle.slots.proofs.Passing.{Tables, still, tables_start, still-start, tables-on, still-on}

pub record Reaching (plan : List ℕ) (name : ℕ) (carriers bays : List ℕ) (i : ℕ) : Type 0 where
  pub tables : Tables plan carriers bays i
  pub near : i ≤ name
  pub ahead : get_or (slots (crossings plan)) name 0 ≡ get_or (still plan carriers bays i) (name - i) 0

pub reaching-start : (plan : List ℕ) (name : ℕ) → Reaching plan name (replicate most_bays 0) (replicate most_bays 0) 0
reaching-start plan name = record {
  tables = tables_start plan;
  near = omega arith;
  ahead = let e : name - 0 ≡ name = omega arith in rw e (ap (λ l. get_or l name 0) (still-start plan));
}

module _ (plan : List ℕ) (name : ℕ) (carriers bays : List ℕ) (i : ℕ) (p : Reaching plan name carriers bays i) (inside : name < length plan)
    (fits : Fits most_bays most_bays plan) (x : Crossing) (is : x ≡ named (crossings plan) i)
    (s : ℕ) (carriers' bays' : List ℕ) (turned : Turned carriers bays x s carriers' bays') where
  pub reaching-on : i < name → Reaching plan name carriers' bays' (i + 1)
  reaching-on less =
      let more : i < length plan = omega arith in
      let e : name - i ≡ suc (name - (i + 1)) = omega arith in
      let next = still-on p.tables more fits is turned in
      record {
        tables = tables-on p.tables more fits is turned;
        near = omega arith;
        ahead = p.ahead ∙ ap (λ k. get_or (still plan carriers bays i) k 0) e ∙ ap (λ l. get_or l (suc (name - (i + 1))) 0) next;
      }

  pub reaching-end : name ≤ i → s ≡ get_or (slots (crossings plan)) name 0
  reaching-end there =
      let more : i < length plan = omega (arith, p.near) in
      let e : name - i ≡ 0 = omega arith in
      let next = still-on p.tables more fits is turned in
      sym (p.ahead ∙ ap (λ k. get_or (still plan carriers bays i) k 0) e ∙ ap (λ l. get_or l 0 0) next)
