-- The placement is where the accepted crossings leave the carriers, in whatever order they were accepted: demand 3 says so of the done crossings in plan order.
use mathlib.Core.Path.{◌≡◌, sym, ◌∙◌, ap}
use mathlib.Core.List.{List, ◌++◌}
use mathlib.Core.Option.{none}
use Prim.Native.Nat.{ℕ, ◌≤◌}
use borrow.Author.Tests.{le-ltb}
use lib.ListN.{length, take, drop}
use lib.Seq.{take_at, drop_at}
use Rattle.paper.specs.Yard.{Bay, Placement, crossings, after}
use Rattle.paper.specs.Order.{Order}
use Rattle.paper.specs.Docket.{granted}
use Rattle.paper.specs.Dependence.{done_of, placement_by}
use Rattle.paper.specs.Answers.{check}
use Rattle.paper.specs.Log.{Request, marks_of, accepted_of}
use Rattle.paper.proofs.Playing.{after-length}
use Rattle.laws.proofs.Logging.{fine-marks}
use Rattle.demands.proofs.Demands.{demand-3}
use Rattle.docket.specs.Verdict.{Verdict as Held}
use Rattle.placement.specs.Standing.{refusal, standing, standing_end, PlacementSays}

-- what is handed out after any reports on a plan that passes the check, from fresh marks
pub record Stands (starts : Placement) (plan : List ℕ) (qs : List Request) (lent lent' : List Bay) : Type 0 where
  pub left : take (length starts) lent' ≡ after starts (accepted_of plan qs)
  pub behind : drop (length starts) lent' ≡ drop (length starts) lent

module _ (o : Order) (plan : List ℕ) (passes : check o plan ≡ none) (qs : List Request) where
  pub granted-then : (lent : ℕ) → length o.starts ≤ lent → standing o plan (marks_of plan qs) lent ≡ granted (length o.starts)
  unfolding standing refusal
  granted-then lent h = rw (passes, fine-marks o plan passes qs, le-ltb lent (length o.starts) h)

  pub stands : (lent : List Bay) → length o.starts ≤ length lent → (answer : Held) (lent' : List Bay)
      → PlacementSays o plan (marks_of plan qs) lent answer lent' → Stands o.starts plan qs lent lent'
  stands lent h answer lent' says =
      let at = placement_by o.starts (crossings plan) (marks_of plan qs) in
      let end : lent' ≡ at ++ drop (length o.starts) lent =
      says.leaves ∙ ap (standing_end o plan (marks_of plan qs) lent) (granted-then (length lent) h) in
      let long = after-length o.starts (done_of (crossings plan) (marks_of plan qs)) in
      record {
        left = ap (take (length o.starts)) end ∙ take_at at (drop (length o.starts) lent) (length o.starts) long ∙ sym (demand-3 o plan passes qs).same;
        behind = ap (drop (length o.starts)) end ∙ drop_at at (drop (length o.starts) lent) (length o.starts) long;
      }
