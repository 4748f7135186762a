-- Shortening answers by its rows in their order: as the check, 11, 25, 8.
use mathlib.Core.Path.{◌≡◌, refl, ap}
use mathlib.Core.Bool.{true}
use mathlib.Core.List.{List}
use mathlib.Core.Logic.{◌↔◌}
use mathlib.Core.Option.{Option, none, some}
use Prim.Native.Nat.{ℕ}
use lib.Dec.{eqb}
use lib.ListN.{length}
use borrow.Author.Tests.{eqb-true, eq-eqb}
use Rattle.paper.specs.Basics.{elem, ◌and◌}
use Rattle.paper.specs.Yard.{Crossing, crossings}
use Rattle.paper.specs.Order.{Order}
use Rattle.paper.specs.Docket.{Refusal, begun, number, carried}
use Rattle.paper.specs.Answers.{accepted, refused, unless}
use Rattle.paper.proofs.Tests.{never}
use Rattle.paper.proofs.Determined.{docket-tells}
use Rattle.exactly.specs.First.{Row, NoneOf, Given, distinct}
use Rattle.exactly.proofs.First.{after-it, exactly, nothing-exactly, plain-test}
use Rattle.exactly.proofs.Lists.{any-exactly}
use Rattle.exactly.proofs.Six.{Refuses}
use Rattle.exactly.proofs.Plans.{reads-8}
use Rattle.exactly.proofs.Checking.{marks-read}
use Rattle.trips.specs.Trips.{shorten}
use Rattle.trips.specs.Shortening.{any_done, shorten_refusal, shortening}
use Rattle.requests.specs.Rows.{Begun, shorten_rows}

-- an answer is refused exactly by its tests
refused-exactly : (t : Option Refusal) (xs : List Crossing) (r : Refusal) → (unless t (accepted xs) ≡ refused r) ↔ (t ≡ some r)
unfolding unless
refused-exactly t xs r = (to t, λ e. rw e)
  where
    to : (t : Option Refusal) → unless t (accepted xs) ≡ refused r → t ≡ some r
    to none h = never (cc)
    to (some q) h = let z : q ≡ r = cc in ap some z

accepted-exactly : (t : Option Refusal) (xs : List Crossing) → (unless t (accepted xs) ≡ accepted xs) ↔ (t ≡ none)
unfolding unless
accepted-exactly t xs = (to t, λ e. rw e)
  where
    to : (t : Option Refusal) → unless t (accepted xs) ≡ accepted xs → t ≡ none
    to none h = refl
    to (some q) h = never (cc)

begun-words : (o : Order) (plan marks : List ℕ) → (any_done marks ≡ true) ↔ Begun o plan marks
unfolding any_done
begun-words o plan marks =
    let e = any-exactly (λ m. eqb m 1) 0 marks in (
      λ h. let r = e.0 h in (r.0, r.1, eqb-true _ _ r.2),
      λ r. e.1 (r.0, r.1, eq-eqb _ _ r.2),
    )

module _ (o : Order) (plan marks : List ℕ) (lent : ℕ) where
  abbrev Rows : List Row
  Rows = shorten_rows o plan marks lent

  shortening-reads : Refuses (shorten_refusal o plan marks lent) Rows
  unfolding shorten_refusal
  shortening-reads =
      after-it number carried (marks-read o plan marks) (λ _.
      after-it number carried
      (plain-test number carried (Begun o plan marks) (any_done marks) begun (docket-tells begun) refl (begun-words o plan marks)) (λ _.
      reads-8 lent (length (shorten (crossings plan)))))

  -- Shortening refuses exactly by the first of 1 to 6, 9, 10, 11, 25, 8 that applies.
  pub shortening-refuses : (r : Refusal) → (shortening o plan marks lent ≡ refused r) ↔ Given Rows (number r) (carried r)
  unfolding shortening distinct elem ◌and◌
  shortening-refuses r =
      let e = exactly number carried shortening-reads refl r in
      let f = refused-exactly (shorten_refusal o plan marks lent) (shorten (crossings plan)) r in
      (λ h. e.0 (f.0 h), λ g. f.1 (e.1 g))

  -- It answers the shorter plan exactly if none applies.
  pub shortening-grants : (shortening o plan marks lent ≡ accepted (shorten (crossings plan))) ↔ NoneOf Rows
  unfolding shortening
  shortening-grants =
      let e = nothing-exactly number carried shortening-reads in
      let f = accepted-exactly (shorten_refusal o plan marks lent) (shorten (crossings plan)) in
      (λ h. e.0 (f.0 h), λ g. f.1 (e.1 g))
