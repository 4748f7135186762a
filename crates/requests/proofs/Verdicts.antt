-- Functions that answer a verdict: where the carriers stand, slots by an edition, playing backwards, the print of a plan, and surveyors' files. Each
-- is denied exactly by the first of its rows that applies, and granted exactly if none does.
use mathlib.Core.Path.{◌≡◌, refl, sym, ◌∙◌, ap}
use mathlib.Core.Bool.{true, false, not}
use mathlib.Core.List.{List, []}
use mathlib.Core.Logic.{◌↔◌}
use mathlib.Core.Option.{Option, none, some}
use Prim.Native.Nat.{ℕ, ◌<◌}
use lib.Dec.{ltb, leb}
use lib.ListN.{length}
use borrow.Author.Tests.{not-true, ltb-true, lt-ltb, le-ltb, leb-true, leb-false, eqb-false, ne_eqb}
use Rattle.paper.specs.Basics.{or_else, when, elem, ◌and◌}
use Rattle.paper.specs.Yard.{Bay, crossings, most_crossings}
use Rattle.paper.specs.Order.{Order, order}
use Rattle.paper.specs.Docket.{Refusal, size, room, edition, number, carried, granted, denied, unless_denied}
use Rattle.paper.specs.Print.{print_plan}
use Rattle.paper.proofs.Tests.{by_cases, never, or-none, or-neither}
use Rattle.paper.proofs.Determined.{docket-tells}
use Rattle.exactly.specs.First.{Row, NoneOf, Given, numbers_of, distinct}
use Rattle.exactly.proofs.First.{after-it, exactly, nothing-exactly, plain-test, known-test}
use Rattle.exactly.proofs.Six.{Refuses, reads-1, reads-2, reads-3, some_bay}
use Rattle.exactly.proofs.Plans.{reads-8}
use Rattle.exactly.proofs.Marks.{reads-11}
use Rattle.exactly.proofs.Checking.{check-reads, slots-reads}
use Rattle.handing.specs.Handing.{handed}
use Rattle.handing.specs.Plans.{plan_printed}
use Rattle.placement.specs.Standing.{refusal, standing}
use Rattle.editions.specs.Editions.{is_known, slots_of_refusal, slots_of}
use Rattle.reversing.specs.Reversing.{reverse_refusal, reversing}
use Rattle.survey.specs.Survey.{survey_of, first_three, read_refusal, write_refusal}
use Rattle.requests.specs.Rows.{standing_rows, edition_rows, reverse_rows, print_rows, three_rows, survey_rows, writing_rows}

-- a verdict is denied exactly by its tests
denied-exactly : (t : Option Refusal) (m : ℕ) (r : Refusal) → (unless_denied t m ≡ denied r) ↔ (t ≡ some r)
denied-exactly t m r = (to t, λ e. rw e)
  where
    to : (t : Option Refusal) → unless_denied t m ≡ denied r → t ≡ some r
    to none h = never (cc)
    to (some q) h = let z : q ≡ r = cc in ap some z

granted-exactly : (t : Option Refusal) (m : ℕ) → (unless_denied t m ≡ granted m) ↔ (t ≡ none)
granted-exactly t m = (to t, λ e. rw e)
  where
    to : (t : Option Refusal) → unless_denied t m ≡ granted m → t ≡ none
    to none h = refl
    to (some q) h = never (cc)

module _ {t : Option Refusal} {rows : List Row} (m : ℕ) (reads : Refuses t rows) where
  pub verdict-denies : distinct (numbers_of rows) ≡ true → (r : Refusal) → (unless_denied t m ≡ denied r) ↔ Given rows (number r) (carried r)
  verdict-denies d r =
      let e = exactly number carried reads d r in
      let f = denied-exactly t m r in
      (λ h. e.0 (f.0 h), λ g. f.1 (e.1 g))

  pub verdict-grants : (unless_denied t m ≡ granted m) ↔ NoneOf rows
  verdict-grants =
      let e = nothing-exactly number carried reads in
      let f = granted-exactly t m in
      (λ h. e.0 (f.0 h), λ g. f.1 (e.1 g))

module _ (given : Order) (plan : List ℕ) where
  -- ## Where the carriers stand

  module _ (marks : List ℕ) (lent : ℕ) where
    standing-reads : Refuses (refusal given plan marks lent) (standing_rows given plan marks lent)
    unfolding refusal
    standing-reads =
        after-it number carried (check-reads given plan) (λ _.
        after-it number carried (reads-11 (crossings plan) marks) (λ _.
        known-test number carried (λ v. (v ≡ length given.starts) × (lent < length given.starts)) (ltb lent (length given.starts)) room (length given.starts) 8
        (docket-tells (room (length given.starts))) refl refl
        (λ h. (refl, ltb-true _ _ h))
        (λ v w. (lt-ltb _ _ w.1, w.0))))

    pub standing-denies : (r : Refusal) → (standing given plan marks lent ≡ denied r)
        ↔ Given (standing_rows given plan marks lent) (number r) (carried r)
    unfolding standing distinct elem ◌and◌
    standing-denies r = verdict-denies (length given.starts) standing-reads refl r

    pub standing-grants : (standing given plan marks lent ≡ granted (length given.starts)) ↔ NoneOf (standing_rows given plan marks lent)
    unfolding standing
    standing-grants = verdict-grants (length given.starts) standing-reads

  -- ## Slots by an edition

  module _ (e lent : ℕ) where
    known-words : (not (is_known e) ≡ true) ↔ ((e ≡ 1 → ⊥) × (e ≡ 2 → ⊥))
    unfolding is_known
    known-words = (
      λ h. let o = or-none _ _ (not-true _ h) in (eqb-false _ _ o.0, eqb-false _ _ o.1),
      λ f. ap not (or-neither _ _ (ne_eqb _ _ f.0) (ne_eqb _ _ f.1)),
    )

    edition-reads : Refuses (slots_of_refusal given plan e lent) (edition_rows given plan e lent)
    unfolding slots_of_refusal
    edition-reads =
        after-it number carried
        (plain-test number carried ((e ≡ 1 → ⊥) × (e ≡ 2 → ⊥)) (not (is_known e)) edition (docket-tells edition) refl known-words) (λ _.
        slots-reads given plan lent)

    -- 20 first, then as slots
    pub edition-denies : (r : Refusal) → (slots_of given plan e lent ≡ denied r)
        ↔ Given (edition_rows given plan e lent) (number r) (carried r)
    unfolding distinct elem ◌and◌
    edition-denies r = verdict-denies (length plan) edition-reads refl r

    pub edition-grants : (slots_of given plan e lent ≡ granted (length plan)) ↔ NoneOf (edition_rows given plan e lent)
    edition-grants = verdict-grants (length plan) edition-reads

-- ## Playing backwards

module _ (list : List ℕ) (lent : ℕ) where
  reverse-reads : Refuses (reverse_refusal list lent) (reverse_rows list lent)
  unfolding reverse_refusal
  reverse-reads =
      after-it number carried
      (plain-test number carried (most_crossings < length list) (ltb most_crossings (length list)) size (docket-tells size) refl
      (ltb-true most_crossings (length list), lt-ltb most_crossings (length list))) (λ _.
      reads-8 lent (length list))

  pub reverse-denies : (r : Refusal) → (reversing list lent ≡ denied r) ↔ Given (reverse_rows list lent) (number r) (carried r)
  unfolding reversing distinct elem ◌and◌
  reverse-denies r = verdict-denies (length list) reverse-reads refl r

  pub reverse-grants : (reversing list lent ≡ granted (length list)) ↔ NoneOf (reverse_rows list lent)
  unfolding reversing
  reverse-grants = verdict-grants (length list) reverse-reads

-- ## The print of a plan

module _ (list : List ℕ) (lent : ℕ) where
  abbrev bytes : ℕ
  bytes = length (print_plan (crossings list))

  -- its two tests, one after the other
  abbrev print_refusal : Option Refusal
  print_refusal = or_else (when (ltb most_crossings (length list)) size) (when (ltb lent bytes) (room bytes))

  handed-as : handed bytes lent ≡ unless_denied (when (ltb lent bytes) (room bytes)) bytes
  unfolding handed
  handed-as =
      by_cases (leb bytes lent)
      (λ e. let f : ltb lent bytes ≡ false = le-ltb lent bytes (leb-true bytes lent e) in rw (e, f))
      (λ e. let f : ltb lent bytes ≡ true = lt-ltb lent bytes (leb-false bytes lent e) in rw (e, f))

  print-as : plan_printed list lent ≡ unless_denied print_refusal bytes
  unfolding plan_printed
  print-as =
      by_cases (leb (length list) most_crossings)
      (λ e. let f : ltb most_crossings (length list) ≡ false = le-ltb most_crossings (length list) (leb-true (length list) most_crossings e) in rw (e, f) handed-as)
      (λ e. let f : ltb most_crossings (length list) ≡ true = lt-ltb most_crossings (length list) (leb-false (length list) most_crossings e) in rw (e, f))

  print-reads : Refuses print_refusal (print_rows list lent)
  print-reads =
      after-it number carried
      (plain-test number carried (most_crossings < length list) (ltb most_crossings (length list)) size (docket-tells size) refl
      (ltb-true most_crossings (length list), lt-ltb most_crossings (length list))) (λ _.
      known-test number carried (λ v. (v ≡ bytes) × (lent < bytes)) (ltb lent bytes) room bytes 8 (docket-tells (room bytes)) refl refl
      (λ h. (refl, ltb-true _ _ h))
      (λ v w. (lt-ltb _ _ w.1, w.0)))

  pub print-denies : (r : Refusal) → (plan_printed list lent ≡ denied r) ↔ Given (print_rows list lent) (number r) (carried r)
  unfolding distinct elem ◌and◌
  print-denies r =
      let f = verdict-denies bytes print-reads refl r in
      (λ h. f.0 (sym print-as ∙ h), λ g. print-as ∙ f.1 g)

  pub print-grants : (plan_printed list lent ≡ granted (length (print_plan (crossings list)))) ↔ NoneOf (print_rows list lent)
  print-grants =
      let f = verdict-grants bytes print-reads in
      (λ h. f.0 (sym print-as ∙ h), λ g. print-as ∙ f.1 g)

-- ## Surveyors' files, once the layout is kept

module _ (n : ℕ) (ends : List Bay) where
  three-reads : Refuses (first_three n ends) (three_rows n ends)
  unfolding first_three
  three-reads =
      after-it number carried (reads-1 (order n ends [] []) 0) (λ a.
      after-it number carried (reads-2 (order n ends [] [])) (λ b.
      reads-3 (order n ends [] []) (some_bay (order n ends [] []) 0 a) b))

  module _ (lent : ℕ) where
    survey-reads : Refuses (read_refusal n ends lent) (survey_rows n ends lent)
    unfolding read_refusal
    survey-reads = after-it number carried three-reads (λ _. reads-8 lent (length ends))

    pub survey-denies : (r : Refusal) → (unless_denied (read_refusal n ends lent) (length ends) ≡ denied r) ↔ Given (survey_rows n ends lent) (number r) (carried r)
    unfolding distinct elem ◌and◌
    survey-denies r = verdict-denies (length ends) survey-reads refl r

    pub survey-grants : (unless_denied (read_refusal n ends lent) (length ends) ≡ granted (length ends)) ↔ NoneOf (survey_rows n ends lent)
    survey-grants = verdict-grants (length ends) survey-reads

    writing-reads : Refuses (write_refusal n ends lent) (writing_rows n ends lent)
    unfolding write_refusal
    writing-reads = after-it number carried three-reads (λ _. reads-8 lent (length (survey_of n ends)))

    pub writing-denies : (r : Refusal) → (unless_denied (write_refusal n ends lent) (length (survey_of n ends)) ≡ denied r)
        ↔ Given (writing_rows n ends lent) (number r) (carried r)
    unfolding distinct elem ◌and◌
    writing-denies r = verdict-denies (length (survey_of n ends)) writing-reads refl r

    pub writing-grants : (unless_denied (write_refusal n ends lent) (length (survey_of n ends)) ≡ granted (length (survey_of n ends))) ↔ NoneOf (writing_rows n ends lent)
    writing-grants = verdict-grants (length (survey_of n ends)) writing-reads
