-- From what is handed out to the planner's answer.
-- Assumes nothing.
use Rattle.std.proofs.Common.{Err, Ok}
use mathlib.Core.Path.{◌≡◌, refl, sym, ◌∙◌, ap}
use mathlib.Core.Bool.{true}
use mathlib.Core.List.{List, map}
use mathlib.Core.Option.{none, some}
use Prim.Native.Nat.{ℕ}
use lib.ListN.{length, take, drop, length-map}
use lib.Seq.{take_at}
use Rattle.paper.specs.Procedure.{procedure}
use Rattle.paper.specs.Yard.{Crossing, pack, crossings, after, legal_plan}
use Rattle.paper.specs.Order.{Order}
use Rattle.paper.specs.Docket.{yard_of}
use Rattle.paper.specs.Answers.{Answer, accepted, refused, first_six, beside, written, plan, plan_parked, plan_end, check}
use Rattle.paper.proofs.Planning.{accepted-right, plan-clean, plan-unclean}
use Rattle.paper.proofs.Tests.{never}
use Rattle.laws.proofs.Handing.{handed-passes}
use Rattle.docket.specs.Reading.{refusal_of}
use Rattle.docket.specs.declared.Refusal.{Refusal as Docketed}
use Rattle.rooms.specs.FromBelow.{counted_of, Hands, HandsOut}
use Rattle.rooms.specs.FromBelow.{Counted}
use Rattle.likely.specs.FromBelow.{Admitted}
use Rattle.yard.specs.Opening.{opened_of, Opens}
use Rattle.yard.specs.declared.Yard.{Yard as Numbers}
use Rattle.yard.specs.Opened.{Opened}
use Rattle.planner.proofs.Letting.{let-in, tabled-of}
use Rattle.planner.specs.Statement.{long, told, planned_of, uncounted, PlanSays, CountSays}
use Rattle.planner.specs.Planned.{Planned as Answered}

-- the same length is told with the count and without
length-counted : (a : Counted) → planned_of (uncounted a) ≡ counted_of a
length-counted (Ok (m, k)) = refl
length-counted (Err r) = refl

module _ (o : Order) where
  -- an answer of a plan's length comes of a plan of that length
  by-told : {P : Type 0} (a : Answer) (m : ℕ) → long m ≡ told a → ((xs : List Crossing) → a ≡ accepted xs → m ≡ length xs → P) → P
  by-told (accepted xs) m h f = f xs refl (cc)
  by-told (refused r) m h f = never (cc)

  -- a plan that stands in the lent list is legal, ends at the goals and passes the check
  stands : (lent lent' : List ℕ) (m : ℕ) → long m ≡ told (plan o (length lent)) → lent' ≡ plan_end o lent
      → (legal_plan (yard_of o) o.starts (crossings (take m lent')) ≡ true) × (after o.starts (crossings (take m lent')) ≡ o.goals) × (check o (take m lent') ≡ none)
  unfolding written
  stands lent lent' m h e = by-told (plan o (length lent)) m h (λ xs a l.
      let front : take m lent' ≡ map pack xs = ap (take m) (e ∙ rw a refl) ∙ take_at (map pack xs) (drop (length xs) lent) m (length-map xs pack ∙ sym l) in
      let right = accepted-right o (length lent) xs a in
      let handed = handed-passes o (length lent) xs a in
      rw (front, handed.1) (right.0, right.1, handed.0))

  pub says_of : (lent lent' : List ℕ) (answer : Answered) → planned_of answer ≡ told (plan o (length lent)) → lent' ≡ plan_end o lent
      → PlanSays o lent answer lent'
  says_of lent lent' answer h e = record {
    answers = h;
    leaves = e;
    legal = λ m z. (stands lent lent' m (sym (ap planned_of z) ∙ h) e).0;
    home = λ m z. (stands lent lent' m (sym (ap planned_of z) ∙ h) e).1;
    passes = λ m z. (stands lent lent' m (sym (ap planned_of z) ∙ h) e).2;
  }

  pub says-refused : (lent : List ℕ) (r : Docketed) → some (refusal_of r) ≡ first_six o 0 → CountSays o lent (Err r) lent
  unfolding written plan_parked beside
  says-refused lent r h =
      let e = plan-unclean o (length lent) (refusal_of r) (sym h) in
      record { says = says_of lent lent (Err r) (rw e refl) (rw e refl); parks = rw e refl }

  pub says-handed : (lent lent' : List ℕ) (answer : Counted) → none ≡ first_six o 0 → Hands (procedure (yard_of o) o.goals o.starts) lent answer lent'
      → CountSays o lent answer lent'
  unfolding plan_parked
  says-handed lent lent' answer h k =
      let e = plan-clean o (length lent) (sym h) in
      record { says = says_of lent lent' (uncounted answer) (length-counted answer ∙ rw e k.answers) (rw e k.leaves); parks = rw e k.parks }

-- the yard's answer: where it opens, the procedure may be played, and what is handed out is the answer; else the refusal is
module _ (o : Order) {opened : Opened} {table : List ℕ} (opens : Opens o 0 opened table) where
  pub opens_in : {y : Numbers} → opened ≡ Ok y → Admitted y.bays table o.starts o.goals
  opens_in e = let-in o (ap opened_of (sym e) ∙ opens.answer) (opens.admitted _ e)

  pub says-shut : {r : Docketed} (lent : List ℕ) → opened ≡ Err r → CountSays o lent (Err r) lent
  says-shut lent e = says-refused o lent _ (ap opened_of (sym e) ∙ opens.answer)

  pub says-open : {y : Numbers} (lent lent' : List ℕ) (answer : Counted) → opened ≡ Ok y
      → HandsOut y.bays table o.starts o.goals lent answer lent' → CountSays o lent answer lent'
  says-open lent lent' answer e h = says-handed o lent lent' answer (ap opened_of (sym e) ∙ opens.answer) (h (tabled-of o (opens.admitted _ e)))
