-- What a biller relies on, derived from the demand's record alone: each law cites its fields, so a record that said less would not do.
use mathlib.Core.Path.{◌≡◌, ◌∙◌, ap}
use mathlib.Core.Bool.{true, false}
use mathlib.Core.List.{List}
use Prim.Native.Nat.{ℕ, ◌<◌}
use lib.ListN.{length, get_or}
use Rattle.paper.specs.Basics.{In, NoDup}
use Rattle.paper.specs.Yard.{Carrier, legal_plan, crossings}
use Rattle.paper.specs.Order.{Order}
use Rattle.paper.specs.Dependence.{is_done, count_of, placement_by}
use Rattle.paper.specs.Docket.{yard_of}
use Rattle.paper.specs.Answers.{accept, already}
use Rattle.paper.specs.Log.{Request}
use Rattle.bills.specs.Billing.{places, untouched, no_line, record_of}
use Rattle.bills.specs.Keeping.{answer_on, books_by}
use Rattle.bills.specs.Demand.{total_billed, last_of, books_end, names_billed, crossings_billed, asked, Demand3Billed}

module _ (o : Order) (plan : List ℕ) (qs : List Request) (d : Demand3Billed o plan qs) where
  -- the record says where the accepted crossings left the carriers, which is where the marks say, and legal crossings led there
  pub stands-as-billed : (legal_plan (yard_of o) o.starts (crossings_billed o.starts plan qs) ≡ true)
      × ((books_end o.starts plan qs).running.at ≡ places (placement_by o.starts (crossings plan) (books_end o.starts plan qs).marks))
      × ((books_end o.starts plan qs).running ≡ record_of o.starts (crossings plan) (books_end o.starts plan qs).marks)
  stands-as-billed = (d.lawful, d.placed ∙ ap places d.same, d.afresh.0)

  -- a crossing is billed if and only if its name was accepted: once, in its carrier's line, and the lines add up to the number done
  pub billed-if-accepted : NoDup (names_billed o.starts plan qs)
      × ((i : ℕ) → In i (names_billed o.starts plan qs) → is_done (books_end o.starts plan qs).marks i ≡ true)
      × ((i : ℕ) → is_done (books_end o.starts plan qs).marks i ≡ true → In i (names_billed o.starts plan qs))
      × ((c : Carrier) → c < length o.starts → (get_or (books_end o.starts plan qs).lines c no_line).billed ≡ count_of c (crossings_billed o.starts plan qs))
      × (total_billed (books_end o.starts plan qs).lines ≡ (books_end o.starts plan qs).running.done)
      × ((c : Carrier) → c < length o.starts → (get_or (books_end o.starts plan qs).lines c no_line).last ≡ last_of c (crossings plan) untouched (names_billed o.starts plan qs))
  billed-if-accepted = (d.once, λ i. (d.marked i).1, λ i. (d.marked i).0, d.each_billed, d.all_billed, d.last_names)

  -- an order sent again after a lost acknowledgement is answered "already" and billed to nobody
  pub lost-acknowledgement : (i : ℕ) → In i (names_billed o.starts plan qs) → (q : Request) → q.name ≡ i
      → (answer_on plan (books_end o.starts plan qs) (asked o i) ≡ already) × (books_by plan (books_end o.starts plan qs) q ≡ books_end o.starts plan qs)
  lost-acknowledgement i m q e = (d.answered i m, d.repeats q (rw e m))

  -- what is not accepted is billed to nobody
  pub unaccepted-unbilled : (q : Request) → (answer_on plan (books_end o.starts plan qs) q ≡ accept → ⊥)
      → total_billed (books_by plan (books_end o.starts plan qs) q).lines ≡ (books_end o.starts plan qs).running.done
  unaccepted-unbilled q h = ap (λ b. total_billed b.lines) (d.unchanged q h) ∙ d.all_billed

  -- the log never freezes, and with all done the plan is billed, no more and no less, and every carrier is home
  pub goes-on-to-the-end : (i : ℕ) → i < length plan → is_done (books_end o.starts plan qs).marks i ≡ false
      → (j : ℕ) × (answer_on plan (books_end o.starts plan qs) (asked o j) ≡ accept)
  goes-on-to-the-end i l u = d.goes_on i l u

  pub the-plan-is-billed : ((i : ℕ) → i < length plan → is_done (books_end o.starts plan qs).marks i ≡ true)
      → ((books_end o.starts plan qs).running.at ≡ places o.goals)
      × ((c : Carrier) → c < length o.starts → (get_or (books_end o.starts plan qs).lines c no_line).billed ≡ count_of c (crossings plan))
      × (total_billed (books_end o.starts plan qs).lines ≡ length plan)
      × ((books_end o.starts plan qs).running.done ≡ length plan)
  the-plan-is-billed f = let a = d.all_home f in (a.home, a.each, a.billed, a.done)
