-- The lists exchanged: the same count, and the differences negated. What one order grants the other grants too, since each test is made of both lists.
use mathlib.Core.Path.{◌≡◌, refl, sym, ◌∙◌, ap, ap₂}
use mathlib.Core.List.{List, [], ◌∷◌, map}
use mathlib.Core.Option.{none}
use Prim.Native.Nat.{ℕ, ◌≤◌}
use borrow.Author.Tests.{ltb-false, le-ltb, not-false, eqb-true, eq-eqb}
use lib.IntN.{ℤ, pos, neg_ℤ, ◌+ℤ◌, ◌-ℤ◌, +ℤ_comm, neg_ℤ-+ℤ, neg_ℤ-neg_ℤ}
use lib.ListN.{length}
use Rattle.paper.specs.Basics.{or_else, up_to}
use Rattle.paper.specs.Limits.{most_carriers}
use Rattle.paper.specs.Yard.{Carrier, crossings, most_crossings}
use Rattle.paper.specs.Docket.{size, start, room, granted}
use Rattle.paper.specs.Dependence.{count_of}
use Rattle.paper.proofs.Tests.{by-option, or-none, or-neither, none_both, none_from, none-when, never}
use Rattle.comparing.specs.Comparing.{first_above, no_1, no_5, no_8, refusal, equal_leading, comparison, difference, differences}
use Rattle.leading.proofs.Leading.{leading-exchanged}

-- what a comparison that is granted has passed
pub record Passed (first second : List ℕ) (lent : ℕ) : Type 0 where
  pub first_short : length first ≤ most_crossings
  pub second_short : length second ≤ most_crossings
  pub first-low : first_above first ≡ none
  pub second-low : first_above second ≡ none
  pub room-due : lent ≡ most_carriers

pub passed : (first second : List ℕ) (lent : ℕ) → refusal first second lent ≡ none → Passed first second lent
unfolding refusal
passed first second lent h =
    let a = none_both (no_1 first second) (or_else (no_5 first second) (no_8 lent)) h in
    let b = none_both (no_5 first second) (no_8 lent) a.1 in
    let s = or-none _ _ (none-when _ size a.0) in
    let c = none_both (first_above first) (first_above second) (none_from start _ b.0) in
    record {
      first_short = ltb-false _ _ s.0;
      second_short = ltb-false _ _ s.1;
      first-low = c.0;
      second-low = c.1;
      room-due = eqb-true _ _ (not-false _ (none-when _ (room most_carriers) b.1));
    }

pub unrefused : (first second : List ℕ) (lent : ℕ) → Passed first second lent → refusal first second lent ≡ none
unfolding refusal
unrefused first second lent p =
    rw (
      or-neither _ _ (le-ltb most_crossings (length first) p.first_short) (le-ltb most_crossings (length second) p.second_short),
      p.first-low,
      p.second-low,
      eq-eqb lent most_carriers p.room-due,
    )

-- A comparison is granted exactly if it has passed, and then with the number of equal leading crossings.
pub granted-passed : (first second : List ℕ) (lent n : ℕ) → comparison first second lent ≡ granted n → Passed first second lent × (n ≡ equal_leading first second)
unfolding comparison
granted-passed first second lent n =
    by-option (refusal first second lent)
    (λ e. rw e (λ h. (passed first second lent e, cc)))
    (λ r e. rw e (λ h. never cc))

pub passed-granted : (first second : List ℕ) (lent : ℕ) → Passed first second lent → comparison first second lent ≡ granted (equal_leading first second)
unfolding comparison
passed-granted first second lent p = rw (unrefused first second lent p)

negated : (a b : ℕ) → pos b -ℤ pos a ≡ neg_ℤ (pos a -ℤ pos b)
negated a b = sym (neg_ℤ-+ℤ (pos a) (neg_ℤ (pos b)) ∙ ap (λ z. neg_ℤ (pos a) +ℤ z) (neg_ℤ-neg_ℤ (pos b)) ∙ +ℤ_comm (neg_ℤ (pos a)) (pos b))

each-negated : (first second : List ℕ) (l : List Carrier) → map (difference second first) l ≡ map neg_ℤ (map (difference first second) l)
each-negated first second [] = refl
each-negated first second (c ∷ l) =
    ap₂ {C = List ℤ} ◌∷◌ (negated (count_of c (crossings second)) (count_of c (crossings first))) (each-negated first second l)

pub differences-negated : (first second : List ℕ) → differences second first ≡ map neg_ℤ (differences first second)
differences-negated first second = each-negated first second (up_to most_carriers)

-- With the lists exchanged the count is the same, and the differences are negated.
pub exchanged : (first second : List ℕ) (lent n : ℕ) → comparison first second lent ≡ granted n
    → (comparison second first lent ≡ granted n) × (differences second first ≡ map neg_ℤ (differences first second))
exchanged first second lent n h =
    let g = granted-passed first second lent n h in
    let p = g.0 in
    let q : Passed second first lent = record {
      first_short = p.second_short;
      second_short = p.first_short;
      first-low = p.second-low;
      second-low = p.first-low;
      room-due = p.room-due;
    } in (
      passed-granted second first lent q ∙ ap granted (leading-exchanged first second ∙ sym g.1),
      differences-negated first second,
    )
