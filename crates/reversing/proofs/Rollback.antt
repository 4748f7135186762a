-- The request's sentences over the function's own answers and what it leaves, from its statement alone: whatever runs of `reverse` answer and
-- write, the statement allows it, and it allows one thing only.
use Rattle.std.proofs.Common.{Err, Ok}
use mathlib.Core.Path.{◌≡◌, sym, ◌∙◌, ap, ap₂}
use mathlib.Core.List.{List, ◌++◌}
use mathlib.Core.Option.{none}
use Prim.Native.Nat.{ℕ, ◌<◌, ◌≤◌, ◌+◌}
use native.Mathlib.Omega.{arith}
use lib.ListN.{length, take, drop, length-append}
use lib.Seq.{take_at, drop_at}
use Rattle.paper.specs.Basics.{highest_of}
use Rattle.paper.specs.Yard.{crossings, most_crossings}
use Rattle.paper.specs.Order.{Order, backwards}
use Rattle.paper.specs.Answers.{check, slots_refusal, slots_end}
use Rattle.paper.proofs.Admitted.{clean_of}
use Rattle.paper.proofs.Checking.{check-passed}
use Rattle.paper.proofs.Slotting.{slots-given}
use Rattle.docket.specs.declared.Refusal.TheVariants.{Size, Room}
use Rattle.docket.specs.Verdict.{Verdict}
use Rattle.reversing.specs.Reversing.{reversed, highest_slot}
use Rattle.reversing.specs.Statement.{ReverseSays}
use Rattle.reversing.proofs.Backwards.{reversed-length, reversed-twice, reversed-joined}
use Rattle.reversing.proofs.Passing.{reversed-passes}
use Rattle.reversing.proofs.HighestSlot.{reversed-highest-slot}
use Rattle.reversing.proofs.Saying.{too_long, no_room, written}
use Rattle.reversing.proofs.Determined.{reverse-determined}

-- ## One run

-- the list is within the limit and the room holds it: it is granted, the reverse stands in front, and beyond it all is as it was
pub record Reversed (list out : List ℕ) (answer : Verdict) (out' : List ℕ) : Type 0 where
  pub granted : answer ≡ Ok (length list)
  pub front : take (length list) out' ≡ reversed list
  pub beyond : drop (length list) out' ≡ drop (length list) out

module _ (list out : List ℕ) (answer : Verdict) (out' : List ℕ) (says : ReverseSays list out answer out') where
  pub reversed-by : length list ≤ most_crossings → length list ≤ length out → Reversed list out answer out'
  reversed-by short room =
      let whole = reversed list ++ drop (length list) out in
      let same = reverse-determined list out answer (Ok (length list)) out' whole says (written list out short whole room (λ i. whole)) in
      record {
        granted = same.0;
        front = ap (take (length list)) same.1 ∙ take_at (reversed list) (drop (length list) out) (length list) (reversed-length list);
        beyond = ap (drop (length list)) same.1 ∙ drop_at (reversed list) (drop (length list) out) (length list) (reversed-length list);
      }

  -- 1, whatever the room; then 8; and nothing is written
  pub size-refused : most_crossings < length list → (answer ≡ Err Size) × (out' ≡ out)
  size-refused h = reverse-determined list out answer (Err Size) out' out says (too_long list out h)

  pub room-refused : length list ≤ most_crossings → length out < length list → (answer ≡ Err (Room (length list))) × (out' ≡ out)
  room-refused short h = reverse-determined list out answer (Err (Room (length list))) out' out says (no_room list out short h)

-- ## Reversing twice gives the same list

module _ (list out : List ℕ) (r : Verdict) (out' : List ℕ) (back : List ℕ) (s : Verdict) (back' : List ℕ) where
  pub twice-the-same : length list ≤ most_crossings → length list ≤ length out → length list ≤ length back
      → ReverseSays list out r out' → ReverseSays (take (length list) out') back s back'
      → (s ≡ Ok (length list)) × (take (length list) back' ≡ list)
  twice-the-same short room room_back once twice =
      let there = reversed-by list out r out' once short room in
      let again : ReverseSays (reversed list) back s back' = rw there.front at twice in
      let len = reversed-length list in
      let home = reversed-by (reversed list) back s back' again (omega arith) (omega arith) in
      (home.granted ∙ ap Ok len, ap (λ n. take n back') (sym len) ∙ home.front ∙ reversed-twice list)

-- ## The reverse of one list followed by another is the second's reverse followed by the first's

-- three runs: of both lists joined, of the first and of the second
module _ (a b : List ℕ) (out : List ℕ) (r : Verdict) (out' : List ℕ) (outᵃ : List ℕ) (rᵃ : Verdict) (outᵃ' : List ℕ) (outᵇ : List ℕ) (rᵇ : Verdict) (outᵇ' : List ℕ) where
  pub record Joined : Type 0 where
    pub granted : r ≡ Ok (length a + length b)
    pub first-granted : rᵃ ≡ Ok (length a)
    pub second-granted : rᵇ ≡ Ok (length b)
    pub second-then-first : take (length a + length b) out' ≡ take (length b) outᵇ' ++ take (length a) outᵃ'

  pub joined-backwards : length a + length b ≤ most_crossings → length a + length b ≤ length out → length a ≤ length outᵃ → length b ≤ length outᵇ
      → ReverseSays (a ++ b) out r out' → ReverseSays a outᵃ rᵃ outᵃ' → ReverseSays b outᵇ rᵇ outᵇ' → Joined
  joined-backwards short room roomᵃ roomᵇ both first second =
      let len : length (a ++ b) ≡ length a + length b = length-append a b in
      let whole = reversed-by (a ++ b) out r out' both (omega arith) (omega arith) in
      let one = reversed-by a outᵃ rᵃ outᵃ' first (omega arith) roomᵃ in
      let two = reversed-by b outᵇ rᵇ outᵇ' second (omega arith) roomᵇ in
      record {
        granted = whole.granted ∙ ap Ok len;
        first-granted = one.granted;
        second-granted = two.granted;
        second-then-first = ap (λ n. take n out') (sym len) ∙ whole.front ∙ reversed-joined a b ∙ sym (ap₂ (λ l m. l ++ m) two.front one.front);
      }

-- ## What the reverse of a plan does

module _ (o : Order) (plan : List ℕ) (passes : check o plan ≡ none) where
  short-plan : length plan ≤ most_crossings
  short-plan = (clean_of o (length plan) (check-passed o plan passes).sound).sizes.short-plan

  module _ (out : List ℕ) (r : Verdict) (out' : List ℕ) (room : length plan ≤ length out) (says : ReverseSays plan out r out') where
    -- A plan that passes the check from start to goal has a reverse that passes from goal to start: it is granted, and what is written passes.
    pub rollback-passes : (r ≡ Ok (length plan)) × (check (backwards o) (take (length plan) out') ≡ none)
    rollback-passes =
        let there = reversed-by plan out r out' says short-plan room in
        (there.granted, rw there.front (reversed-passes o plan passes))

-- Slots of the reverse use the same highest slot as the plan, for lists of any content:
module _ (list out : List ℕ) (r : Verdict) (out' : List ℕ) where
  pub rollback-highest-slot : length list ≤ most_crossings → length list ≤ length out → ReverseSays list out r out'
      → highest_slot (crossings (take (length list) out')) ≡ highest_slot (crossings list)
  rollback-highest-slot short room says =
      rw (reversed-by list out r out' says short room).front (reversed-highest-slot list)

-- and in the slot lists themselves, where both are given.
module _ (o : Order) (plan slots slots' : List ℕ) where
  pub slot-lists-agree : slots_refusal o plan (length slots) ≡ none → slots_refusal (backwards o) (reversed plan) (length slots') ≡ none
      → highest_of (take (length plan) (slots_end (backwards o) (reversed plan) slots')) ≡ highest_of (take (length plan) (slots_end o plan slots))
  slot-lists-agree given given' =
      let there = (slots-given o plan slots given).0 in
      let back = (slots-given (backwards o) (reversed plan) slots' given').0 in
      ap (λ k. highest_of (take k (slots_end (backwards o) (reversed plan) slots'))) (sym (reversed-length plan))
      ∙ ap highest_of back
      ∙ reversed-highest-slot plan
      ∙ sym (ap highest_of there)
