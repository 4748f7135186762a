-- What the user asks of carousels, in the planner's answers: once 1 to 6 pass, 7 is given exactly if no legal list of crossings leads
-- from start to goal, any list at all.
use mathlib.Core.Path.{◌≡◌, ◌∙◌, ap}
use mathlib.Core.Bool.{true}
use mathlib.Core.Logic.{◌↔◌, ◌⊎◌, inl, inr, ⊎_elim}
use mathlib.Core.List.{List}
use mathlib.Core.Option.{none}
use Prim.Native.Nat.{ℕ}
use lib.ListN.{length}
use Rattle.paper.specs.Yard.{Carrier, Yard, Crossing, carousel}
use Rattle.paper.specs.Order.{Order}
use Rattle.paper.specs.Procedure.{Made, planned, stuck, procedure}
use Rattle.paper.specs.Docket.{stopped, room, yard_of}
use Rattle.paper.specs.Answers.{Answer, accepted, refused, within, plan, first_six}
use Rattle.paper.proofs.Planning.{within-fits, within-long, by_length, plan-clean, accepted-exactly, stopped-exactly, room-exactly}
use Rattle.paper.proofs.Admitted.{clean_of, sound-of, good_of}
use Rattle.carousels.specs.Leads.{Leads}
use Rattle.carousels.proofs.OneRing.{one-ring}
use Rattle.carousels.proofs.Carousels.{stuck-exactly, planned-exactly}

module _ (o : Order) (lent : ℕ)
    (passed : first_six o 0 ≡ none) (two-each : carousel (yard_of o) ≡ true) where
  abbrev yard : Yard
  yard = yard_of o

  abbrev answer : Answer
  answer = plan o lent

  stuck-here : ((c : Carrier) × (procedure yard o.goals o.starts ≡ stuck c)) ↔ (Leads yard o.starts o.goals → ⊥)
  stuck-here =
      let c = clean_of o 0 passed in
      stuck-exactly yard (sound-of o c.rails) o.goals (good_of o o.goals c.goals) two-each (one-ring o 0 passed two-each) o.starts
      (good_of o o.starts c.starts) c.sizes.same_length c.uncrowded

  planned-here : ((m : Made) × (procedure yard o.goals o.starts ≡ planned m)) ↔ Leads yard o.starts o.goals
  planned-here =
      let c = clean_of o 0 passed in
      planned-exactly yard (sound-of o c.rails) o.goals (good_of o o.goals c.goals) two-each (one-ring o 0 passed two-each) o.starts
      (good_of o o.starts c.starts) c.sizes.same_length c.uncrowded

  -- 7 is given exactly if no legal list of crossings leads from start to goal, any list at all.
  pub seven-exactly : ((c : Carrier) × (answer ≡ refused (stopped c))) ↔ (Leads yard o.starts o.goals → ⊥)
  seven-exactly = (
    λ s. stuck-here.0 (s.0, ((stopped-exactly o lent s.0).0 s.1).1),
    λ no. let s = stuck-here.1 no in (s.0, (stopped-exactly o lent s.0).1 (passed, s.1)),
  )

  -- A plan or 8 is given exactly if some legal list does.
  pub plan-or-room-exactly : (((xs : List Crossing) × (answer ≡ accepted xs)) ⊎ ((m : ℕ) × (answer ≡ refused (room m)))) ↔ Leads yard o.starts o.goals
  plan-or-room-exactly = (
    λ s. ⊎_elim
        (λ a. let g = ((accepted-exactly o lent a.0).0 a.1).1 in planned-here.0 (g.0, g.1))
        (λ a. let g = ((room-exactly o lent a.0).0 a.1).1.1 in planned-here.0 (g.0, g.1))
        s,
    λ leads.
        let t = planned-here.1 leads in
        let given = plan-clean o lent passed ∙ ap (within lent) t.1 in
        by_length lent t.0.moves
        (λ h k. inl (t.0.moves, given ∙ within-fits lent t.0 h k))
        (λ h. inr (length t.0.moves, given ∙ within-long lent t.0 h)),
  )
