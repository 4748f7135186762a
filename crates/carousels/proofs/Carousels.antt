-- On a carousel 7 is given exactly if no legal list of crossings leads from start to goal: a plan is such a list, and where there is
-- one each carrier in turn comes to its goal, after which one still leads on from there.
use mathlib.Core.Path.{◌≡◌, refl, sym, ◌∙◌}
use mathlib.Core.Bool.{true}
use mathlib.Core.Logic.{◌↔◌}
use mathlib.Core.List.{[]}
use Prim.Native.Nat.{ℕ, zero, suc, ◌<◌, ◌≤◌, ◌+◌}
use native.Mathlib.Omega.{arith}
use lib.ListN.{length}
use Rattle.paper.specs.Yard.{Carrier, Yard, Placement, after, carousel}
use Rattle.paper.specs.Procedure.{Made, only, together, planned, stuck, carry, carry_from, procedure}
use Rattle.paper.proofs.Tests.{never}
use Rattle.paper.proofs.Playing.{Sound, Good, after-length}
use Rattle.paper.proofs.Carrying.{plan-good, carry-carries, procedure-right, by-outcome}
use Rattle.carousels.specs.Round.{Round}
use Rattle.carousels.specs.Leads.{Leads}
use Rattle.carousels.proofs.Leading.{leads-by, leads-on, leads-back, leads-length}
use Rattle.carousels.proofs.Stepping.{next-runs}
use Rattle.carousels.proofs.Turning.{Home, carry-planned}

module _ (Y : Yard) (sound : Sound Y) (goals : Placement) (goals-good : Good Y goals) where
  -- a plan is a legal list that leads to the goals, on any yard
  pub plan-leads : (p : Placement) (m : Made) → Good Y p → length p ≡ length goals → procedure Y goals p ≡ planned m → Leads Y p goals
  plan-leads p m good len h =
      let t = procedure-right Y sound goals goals-good.apart goals-good p m good len h in
      record { list = m.moves; legal = t.0; ends = t.1 }

  module _ (round : carousel Y ≡ true) (o : Round Y) where
    from-planned : (k : ℕ) (r : Carrier) (p : Placement) → Good Y p → length p + 2 ≤ Y.bays → r + k ≡ length goals → Home goals r p → Leads Y p goals
        → (m : Made) × (carry_from Y goals r k p ≡ planned m)
    unfolding carry_from
    from-planned zero r p good roomy e home leads = (only [], refl)
    from-planned (suc k) r p good roomy e home leads =
        let len = leads-length Y leads in
        let hr : r < length p = omega arith in
        let t = carry-planned Y sound round goals goals-good r p good len hr home o roomy leads in
        let m = t.0 in
        let a = m.moves in
        let s = carry-carries Y sound goals goals-good.apart r p m good len hr (goals-good.inside r (omega arith)) home t.1 in
        let on : Leads Y (after p a) goals = leads-on Y (leads-back Y good.apart (leads-by Y p a s.0)) leads in
        let u = from-planned k (suc r) (after p a) (plan-good Y sound p a good s.0) (rw after-length roomy) (omega arith) s.1 on in
        (together m u.0, next-runs (carry Y goals r) (carry_from Y goals (suc r) k) p m u.0 t.1 u.1)

    -- where some legal list leads to the goals there is a plan
    pub leads-plan : (p : Placement) → Good Y p → length p + 2 ≤ Y.bays → Leads Y p goals → (m : Made) × (procedure Y goals p ≡ planned m)
    unfolding procedure
    leads-plan p good roomy leads = from-planned (length goals) 0 p good roomy (omega arith) (λ c k. absurd (omega arith)) leads

    module _ (p : Placement) (good : Good Y p) (len : length p ≡ length goals) (roomy : length p + 2 ≤ Y.bays) where
      -- THE THEOREM: the procedure is stuck exactly if no legal list of crossings leads from start to goal, any list at all.
      pub stuck-exactly : ((c : Carrier) × (procedure Y goals p ≡ stuck c)) ↔ (Leads Y p goals → ⊥)
      stuck-exactly = (
        λ s leads. let t = leads-plan p good roomy leads in let z : planned t.0 ≡ stuck s.0 = sym t.1 ∙ s.1 in never cc,
        λ no. by-outcome (procedure Y goals p) (λ m h. absurd (no (plan-leads p m good len h))) (λ c h. (c, h)),
      )

      -- And it plans exactly if one does.
      pub planned-exactly : ((m : Made) × (procedure Y goals p ≡ planned m)) ↔ Leads Y p goals
      planned-exactly = (λ t. plan-leads p t.0 good len t.1, λ leads. leads-plan p good roomy leads)
