-- The scenario file in words: which lines keep its layout, what is read of it, and which line is the first bad one.
use mathlib.Core.Path.{◌≡◌, sym, ◌∙◌, ap}
use mathlib.Core.Bool.{true}
use mathlib.Core.List.{List, [], ◌∷◌, ◌++◌}
use mathlib.Core.Logic.{◌↔◌, ◌⊎◌, inl, inr, ⊎_elim}
use mathlib.Core.Option.{Option, some}
use Prim.Native.Nat.{ℕ, suc, ◌≤◌}
use lib.Dec.{ltb}
use lib.ListN.{length, get_or}
use borrow.Author.Tests.{ltb-true, lt-ltb, leb-true, le-leb, eqb-true, eq-eqb}
use Rattle.paper.specs.Basics.{◌or◌}
use Rattle.paper.specs.Limits.{most_carriers}
use Rattle.paper.specs.Yard.{Bay}
use Rattle.paper.specs.Text.{Text, text, TAB, lines, split, same, is_digit, is_point, value, good, bad_line}
use Rattle.paper.specs.Scenario.{is_length, Listed, version_due, carriers, nine_fields, start_and_goal, carrier_line, scenario_line, scenario_end, read_scenario}
use Rattle.paper.proofs.Tests.{by_cases, by-option, and_left, and_right, and_both, or_left, or_right, or_cases, some-when, some-from, never-some, some_same}
use Rattle.laws.proofs.Lines.{same-exactly}
use Rattle.exactly.proofs.Lists.{any-exactly}
use Rattle.layouts.specs.Files.{Whole, FirstBadLine}
use Rattle.layouts.specs.Words.{Digit, Point, Length, CarrierLine, KeepsScenario, EndsScenario}
use Rattle.layouts.proofs.Files.{good-exactly, bad-exactly, bad-from-one}
use Rattle.layouts.proofs.Words.{all-exactly, digit-exactly, digit-or-point, sized-exactly, number-exactly}

pub length-exactly : (l : Text) → (is_length l ≡ true) ↔ Length l
unfolding is_length
length-exactly l =
    let every = all-exactly (λ b. is_digit b or is_point b) (λ b. Digit b ⊎ Point b) digit-or-point l in
    let one = any-exactly is_digit 0 l in (
      λ h.
          let a = and_left _ _ h in
          let b = and_left _ _ a in
          let d = one.0 (and_right _ _ h) in
          record {
            size = (sized-exactly 20 l).0 (and_left _ _ b);
            bytes = every.0 (and_right _ _ b);
            points = leb-true _ _ (and_right _ _ a);
            digit = (d.0, d.1, (digit-exactly _).0 d.2);
          },
      λ r. and_both _ _
          (and_both _ _
          (and_both _ _ ((sized-exactly 20 l).1 r.size) (every.1 r.bytes))
          (le-leb _ _ r.points))
          (one.1 (r.digit.0, r.digit.1, (digit-exactly _).1 r.digit.2)),
    )

module _ (W H : ℕ) (bay : ℕ → ℕ → Option Bay) where
  -- the start and the goal are bays
  bays-exactly : (sx sy gx gy : ℕ) (c : Bay × Bay) → (start_and_goal W H bay sx sy gx gy ≡ some c) ↔ ((bay sx sy ≡ some c.0) × (bay gx gy ≡ some c.1))
  unfolding start_and_goal
  bays-exactly sx sy gx gy c = (
    λ h. by-option (bay sx sy)
        (λ e. never-some c (rw e at h))
        (λ s e. by-option (bay gx gy)
        (λ f. never-some c (rw (e, f) at h))
        (λ g f.
        let k : (s, g) ≡ c = some_same (rw (e, f) at h) in
        (e ∙ ap (λ p. some p.0) k, f ∙ ap (λ p. some p.1) k))),
    λ k. rw (k.0, k.1),
  )

  -- A carrier line is good exactly if it has the nine fields with what the document says of each.
  pub carrier-exactly : (fs : List Text) (c : Bay × Bay) → (carrier_line W H bay fs ≡ some c) ↔ CarrierLine W H bay fs c
  unfolding carrier_line nine_fields
  carrier-exactly fs c = (to, from)
    where
      to : carrier_line W H bay fs ≡ some c → CarrierLine W H bay fs c
      to h =
          by_cases (nine_fields W H bay fs)
          (λ t.
          let b = (bays-exactly (value (get_or fs 4 [])) (value (get_or fs 5 [])) (value (get_or fs 6 [])) (value (get_or fs 7 [])) c).0 (rw t at h) in
          let to-8 = and_right _ _ t in
          let to-7 = and_left _ _ to-8 in
          let to-6 = and_left _ _ to-7 in
          let to-5 = and_left _ _ to-6 in
          let to-4 = and_left _ _ to-5 in
          let to-3 = and_left _ _ to-4 in
          let to-2 = and_left _ _ to-3 in
          let to-1 = and_left _ _ to-2 in
          record {
            nine = eqb-true _ _ (and_left _ _ t);
            bucket = (number-exactly 5 _).0 (and_left _ _ to-1);
            name = (sized-exactly 128 _).0 (and_right _ _ to-1);
            width = (number-exactly 5 _).0 (and_left _ _ (and_right _ _ to-2));
            height = (number-exactly 5 _).0 (and_left _ _ (and_right _ _ to-3));
            start_x = (number-exactly 5 _).0 (and_right _ _ to-4);
            start_y = (number-exactly 5 _).0 (and_right _ _ to-5);
            goal_x = (number-exactly 5 _).0 (and_right _ _ to-6);
            goal_y = (number-exactly 5 _).0 (and_right _ _ to-7);
            length_field = (length-exactly _).0 (and_right _ _ to-8);
            same_width = eqb-true _ _ (and_right _ _ (and_right _ _ to-2));
            same_height = eqb-true _ _ (and_right _ _ (and_right _ _ to-3));
            start = b.0;
            goal = b.1;
          })
          (λ t. never-some c (rw t at h))

      from : CarrierLine W H bay fs c → carrier_line W H bay fs ≡ some c
      from r =
          let t : nine_fields W H bay fs ≡ true =
          and_both _ _ (eq-eqb _ _ r.nine)
          (and_both _ _
          (and_both _ _
          (and_both _ _
          (and_both _ _
          (and_both _ _
          (and_both _ _
          (and_both _ _
          (and_both _ _ ((number-exactly 5 _).1 r.bucket) ((sized-exactly 128 _).1 r.name))
          (and_both _ _ ((number-exactly 5 _).1 r.width) (eq-eqb _ _ r.same_width)))
          (and_both _ _ ((number-exactly 5 _).1 r.height) (eq-eqb _ _ r.same_height)))
          ((number-exactly 5 _).1 r.start_x))
          ((number-exactly 5 _).1 r.start_y))
          ((number-exactly 5 _).1 r.goal_x))
          ((number-exactly 5 _).1 r.goal_y))
          ((length-exactly _).1 r.length_field)) in
          rw t ((bays-exactly (value (get_or fs 4 [])) (value (get_or fs 5 [])) (value (get_or fs 6 [])) (value (get_or fs 7 [])) c).1 (r.start, r.goal))

  pub scenario-line : (a : Listed) (l : Text) (b : Listed) → (scenario_line W H bay a l ≡ some b) ↔ KeepsScenario W H bay a l b
  unfolding scenario_line
  scenario-line version_due l b =
      let one = same-exactly l (text "version 1") in
      let two = same-exactly l (text "version 1.0") in (
        λ h.
            let w = some-when (same l (text "version 1") or same l (text "version 1.0")) (carriers []) h in
            (or_cases _ _ w.0 (λ e. inl (one.0 e)) (λ e. inr (two.0 e)), sym w.1),
        λ k.
            let t : same l (text "version 1") or same l (text "version 1.0") ≡ true =
            ⊎_elim (λ e. or_left _ _ (one.1 e)) (λ e. or_right _ _ (two.1 e)) k.0 in
            rw t (ap some (sym k.1)),
      )
  scenario-line (carriers cs) l b = (
    λ h. by_cases (ltb (length cs) most_carriers)
        (λ t.
        let w = some-from (λ c. carriers (cs ++ (c ∷ []))) (carrier_line W H bay (split TAB l)) (rw t at h) in
        (ltb-true _ _ t, (w.0, (carrier-exactly (split TAB l) w.0).0 w.1, sym w.2)))
        (λ t. never-some b (rw t at h)),
    λ k.
        let t : ltb (length cs) most_carriers ≡ true = lt-ltb _ _ k.0 in
        let e = (carrier-exactly (split TAB l) k.1.0).1 k.1.1 in
        rw (t, e) (ap some (sym k.1.2)),
  )

  pub scenario-end : (a : Listed) (cs : List (Bay × Bay)) → (scenario_end W H bay a ≡ some cs) ↔ EndsScenario W H bay a cs
  unfolding scenario_end
  scenario-end version_due cs = (λ h. never-some cs h, λ k. absurd k)
  scenario-end (carriers ds) cs = (λ h. sym (some_same h), λ e. ap some (sym e))

  -- A scenario is read exactly if its lines keep the layout and none is missing.
  pub scenario-good : (bs : Text) (cs : List (Bay × Bay)) → (read_scenario W H bay bs ≡ good cs)
      ↔ Whole (KeepsScenario W H bay) (EndsScenario W H bay) version_due (lines bs) cs
  unfolding read_scenario
  scenario-good bs cs =
      good-exactly (scenario_line W H bay) (scenario_end W H bay) (KeepsScenario W H bay) (EndsScenario W H bay) scenario-line scenario-end 1 version_due (lines bs) cs

  -- 15 carries n exactly if the lines before line n keep the layout and line n breaks it or is missing.
  pub scenario-bad : (bs : Text) (d : ℕ) → (read_scenario W H bay bs ≡ bad_line (suc d))
      ↔ FirstBadLine (KeepsScenario W H bay) (EndsScenario W H bay) version_due (lines bs) d
  unfolding read_scenario
  scenario-bad bs d =
      bad-exactly (scenario_line W H bay) (scenario_end W H bay) (KeepsScenario W H bay) (EndsScenario W H bay) scenario-line scenario-end version_due (lines bs) d

  pub scenario-from-one : (bs : Text) (n : ℕ) → read_scenario W H bay bs ≡ bad_line n → 1 ≤ n
  unfolding read_scenario
  scenario-from-one bs n h =
      bad-from-one (scenario_line W H bay) (scenario_end W H bay) (KeepsScenario W H bay) (EndsScenario W H bay) scenario-line scenario-end version_due (lines bs) n h
