-- Why one pass finds the highest slot in which anything is done: at each turn it is the higher of what was found and what is still to come.
use Rattle.std.specs.Prelude.{if◌then◌else◌}
use mathlib.Core.Path.{◌≡◌, sym, ◌∙◌, ap, ap₂}
use mathlib.Core.List.{List, ◌∷◌}
use Prim.Native.Nat.{ℕ, ◌≤◌, ◌<◌, ◌+◌, max}
use native.Mathlib.Omega.{arith}
use native.Mathlib.Numerals.{add-one}
use lib.ListN.{length, get_or, drop, replicate}
use lib.Seq.{drop-cons}
use Rattle.paper.specs.Limits.{most_bays}
use Rattle.paper.specs.Yard.{Crossing, crossings, named}
use Rattle.paper.specs.Dependence.{done, slots}
use Rattle.paper.specs.OnePass.{Fits}
use Rattle.paper.proofs.Tests.{by_cases}
use Rattle.slots.specs.Turn.{Turned}
use Rattle.slots.proofs.Passing.{Tables, still, tables_start, still-start, tables-on, still-on, still-end}
use Rattle.bills.specs.Billing.{highest_done}

pub record Rising (plan marks carriers bays : List ℕ) (highest i : ℕ) : Type 0 where
  pub tables : Tables plan carriers bays i
  pub whole : max highest (highest_done (still plan carriers bays i) (drop i marks)) ≡ highest_done (slots (crossings plan)) marks

pub rising-start : (plan marks : List ℕ) → Rising plan marks (replicate most_bays 0) (replicate most_bays 0) 0 0
rising-start plan marks = record {
  tables = tables_start plan;
  whole =
      let e : (n : ℕ) → max 0 n ≡ n = λ n. omega arith in
      e _ ∙ ap (λ l. highest_done l marks) (sym (still-start plan));
}

-- a slot with its mark goes from what is to come to what was found
passed : (highest s m : ℕ) (ss ms : List ℕ)
    → max (if done m then max highest s else highest) (highest_done ss ms) ≡ max highest (highest_done (s ∷ ss) (m ∷ ms))
unfolding highest_done
passed highest s m ss ms = by_cases (done m) (λ d. rw d (omega arith)) (λ d. rw d)

pub rising-on : (plan marks carriers bays : List ℕ) (highest i : ℕ) → Rising plan marks carriers bays highest i → i < length plan
    → length marks ≡ length plan → Fits most_bays most_bays plan → (x : Crossing) → x ≡ named (crossings plan) i
    → (s : ℕ) (carriers' bays' : List ℕ) → Turned carriers bays x s carriers' bays'
    → (high : ℕ) → high ≡ (if done (get_or marks i 0) then max highest s else highest) → Rising plan marks carriers' bays' high (i + 1)
rising-on plan marks carriers bays highest i p more same fits x is s carriers' bays' turned high e =
    let next = still-on p.tables more fits is turned in
    let mark : drop i marks ≡ get_or marks i 0 ∷ drop (i + 1) marks = rw add-one (drop-cons marks i 0 (omega arith)) in
    rw e
    (record {
      tables = tables-on p.tables more fits is turned;
      whole = passed highest s (get_or marks i 0) _ _ ∙ ap (max highest) (sym (ap₂ highest_done next mark)) ∙ p.whole;
    })

pub rising-end : (plan marks carriers bays : List ℕ) (highest i : ℕ) → Rising plan marks carriers bays highest i → length plan ≤ i
    → highest ≡ highest_done (slots (crossings plan)) marks
unfolding highest_done
rising-end plan marks carriers bays highest i p h =
    let none : highest_done (still plan carriers bays i) (drop i marks) ≡ 0 =
    ap (λ l. highest_done l (drop i marks)) (still-end p.tables h) in
    let e : highest ≡ max highest 0 = omega arith in
    e ∙ ap (max highest) (sym none) ∙ p.whole
