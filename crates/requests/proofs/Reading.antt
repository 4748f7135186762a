-- Functions that read a file first: its layout before all else, then what is tested of what was read, then the room. Each refusal exactly if its words hold and
-- nothing before it applies.
use mathlib.Core.Path.{◌≡◌, refl, sym, ◌∙◌, ap}
use mathlib.Core.Bool.{true, false}
use mathlib.Core.List.{List}
use mathlib.Core.Logic.{◌↔◌, ◌⊎◌, inl, inr, ⊎_elim}
use mathlib.Core.Option.{some}
use Prim.Native.Nat.{ℕ, suc, ◌<◌, ◌≤◌}
use lib.Dec.{ltb, leb}
use lib.ListN.{length}
use borrow.Author.Tests.{ltb-true, lt-ltb, leb-true, leb-false, le-leb, lt-leb}
use Rattle.paper.specs.Basics.{elem}
use Rattle.paper.specs.Yard.{Bay, most_crossings}
use Rattle.paper.specs.Docket.{Refusal, size, room, bad_map, bad_scenario, bad_survey, bad_plan, bad_reports, number, carried, granted, denied, unless_denied}
use Rattle.paper.specs.Text.{Text, Read, good, bad_line}
use Rattle.paper.specs.Map.{Grid, bay_in, rail_ends}
use Rattle.paper.specs.Scenario.{read_scenario}
use Rattle.paper.proofs.Tests.{by_cases, not-both, never, or_left, or_right, or_cases}
use Rattle.exactly.specs.First.{Given}
use Rattle.exactly.proofs.First.{given-number}
use Rattle.handing.specs.Handing.{handed}
use Rattle.readback.specs.Files.{plan_verdict, reports_verdict}
use Rattle.listing.specs.Reading.{laying, laid_verdict, listed, listing_in, listing, short, list_verdict}
use Rattle.survey.specs.Survey.{read_survey, read_refusal}
use Rattle.survey.proofs.Broken.{BreaksAfter, broken-exactly}
use Rattle.surveying.specs.Says.{read_answer}
use Rattle.requests.specs.Rows.{survey_rows}
use Rattle.requests.proofs.Verdicts.{survey-denies}

room-same : {m k : ℕ} → denied (room m) ≡ denied (room k) → m ≡ k
room-same h = cc

-- ## A printed plan: 26, 1, 8. A file of reports: 27, 8.

handed-8 : (needed has m : ℕ) → (handed needed has ≡ denied (room m)) ↔ ((m ≡ needed) × (has < needed))
unfolding handed
handed-8 needed has m = (
  λ h. by_cases (leb needed has)
      (λ e. let k : granted needed ≡ denied (room m) = rw e at h in never (cc))
      (λ e. let k : denied (room needed) ≡ denied (room m) = rw e at h in (sym (room-same k), leb-false _ _ e)),
  λ k. let e : leb needed has ≡ false = lt-leb _ _ k.1 in rw e (ap (λ j. denied (room j)) (sym k.0)),
)

handed-only : {P : Type 0} (needed has : ℕ) (r : Refusal) → handed needed has ≡ denied r → (r ≡ room needed → P) → P
unfolding handed
handed-only needed has r h f =
    by_cases (leb needed has)
    (λ e. let k : granted needed ≡ denied r = rw e at h in never (cc))
    (λ e. let k : denied (room needed) ≡ denied r = rw e at h in f (let z : room needed ≡ r = cc in sym z))

module _ (has : ℕ) where
  pub plan-file-26 : (r : Read (List ℕ)) (n : ℕ) → (plan_verdict r has ≡ denied (bad_plan n)) ↔ (r ≡ bad_line n)
  plan-file-26 (bad_line k) n = (λ h. let z : k ≡ n = cc in ap bad_line z, λ h. let z : k ≡ n = cc in ap (λ j. denied (bad_plan j)) z)
  plan-file-26 (good ns) n = (
    λ h. by_cases (leb (length ns) most_crossings)
        (λ e. handed-only (length ns) has (bad_plan n) (rw e at h) (λ q. never (cc)))
        (λ e. let k : denied size ≡ denied (bad_plan n) = rw e at h in never (cc)),
    λ h. never (cc),
  )

  pub plan-file-1 : (r : Read (List ℕ)) → (plan_verdict r has ≡ denied size) ↔ ((ns : List ℕ) × (r ≡ good ns) × (most_crossings < length ns))
  plan-file-1 (bad_line k) = (λ h. never (cc), λ h. let q = h.1 in never (cc))
  plan-file-1 (good ns) = (
    λ h. by_cases (leb (length ns) most_crossings)
        (λ e. handed-only (length ns) has size (rw e at h) (λ q. never (cc)))
        (λ e. (ns, refl, leb-false _ _ e)),
    λ k.
        let z : ns ≡ k.0 = let q = k.1 in cc in
        let l : most_crossings < length ns = rw z k.2 in
        let e : leb (length ns) most_crossings ≡ false = lt-leb _ _ l in
        rw e,
  )

  pub plan-file-8 : (r : Read (List ℕ)) (m : ℕ) → (plan_verdict r has ≡ denied (room m))
      ↔ ((ns : List ℕ) × (r ≡ good ns) × (length ns ≤ most_crossings) × (m ≡ length ns) × (has < length ns))
  plan-file-8 (bad_line k) m = (λ h. never (cc), λ h. let q = h.1 in never (cc))
  plan-file-8 (good ns) m = (
    λ h. by_cases (leb (length ns) most_crossings)
        (λ e. let k = (handed-8 (length ns) has m).0 (rw e at h) in (ns, refl, leb-true _ _ e, k.0, k.1))
        (λ e. let k : denied size ≡ denied (room m) = rw e at h in never (cc)),
    λ k.
        let z : ns ≡ k.0 = let q = k.1 in cc in
        let l : length ns ≤ most_crossings = rw z k.2 in
        let e : leb (length ns) most_crossings ≡ true = le-leb _ _ l in
        rw e ((handed-8 (length ns) has m).1 (rw z k.3, rw z k.4)),
  )

  pub reports-file-27 : (r : Read (List ℕ)) (n : ℕ) → (reports_verdict r has ≡ denied (bad_reports n)) ↔ (r ≡ bad_line n)
  reports-file-27 (bad_line k) n = (λ h. let z : k ≡ n = cc in ap bad_line z, λ h. let z : k ≡ n = cc in ap (λ j. denied (bad_reports j)) z)
  reports-file-27 (good ns) n = (λ h. handed-only (length ns) has (bad_reports n) h (λ q. never (cc)), λ h. never (cc))

  pub reports-file-8 : (r : Read (List ℕ)) (m : ℕ) → (reports_verdict r has ≡ denied (room m)) ↔ ((ns : List ℕ) × (r ≡ good ns) × (m ≡ length ns) × (has < length ns))
  reports-file-8 (bad_line k) m = (λ h. never (cc), λ h. let q = h.1 in never (cc))
  reports-file-8 (good ns) m = (
    λ h. let k = (handed-8 (length ns) has m).0 h in (ns, refl, k.0, k.1),
    λ k. let z : ns ≡ k.0 = let q = k.1 in cc in (handed-8 (length ns) has m).1 (rw z k.2, rw z k.3),
  )

-- ## A map alone: 14, 8

pub map-file-14 : (lent : ℕ) (r : Read Grid) (n : ℕ) → (laid_verdict lent (laying r) ≡ denied (bad_map n)) ↔ (r ≡ bad_line n)
map-file-14 lent (bad_line k) n = (λ h. let z : k ≡ n = cc in ap bad_line z, λ h. let z : k ≡ n = cc in ap (λ j. denied (bad_map j)) z)
map-file-14 lent (good G) n = (
  λ h. by_cases (ltb lent (length (rail_ends G)))
      (λ e. let k : denied (room (length (rail_ends G))) ≡ denied (bad_map n) = rw e at h in never (cc))
      (λ e. let k : granted (length (rail_ends G)) ≡ denied (bad_map n) = rw e at h in never (cc)),
  λ h. never (cc),
)

pub map-file-8 : (lent : ℕ) (r : Read Grid) (m : ℕ) → (laid_verdict lent (laying r) ≡ denied (room m))
    ↔ ((G : Grid) × (r ≡ good G) × (m ≡ length (rail_ends G)) × (lent < length (rail_ends G)))
map-file-8 lent (bad_line k) m = (λ h. never (cc), λ h. let q = h.1 in never (cc))
map-file-8 lent (good G) m = (
  λ h. by_cases (ltb lent (length (rail_ends G)))
      (λ e. let k : denied (room (length (rail_ends G))) ≡ denied (room m) = rw e at h in (G, refl, sym (room-same k), ltb-true _ _ e))
      (λ e. let k : granted (length (rail_ends G)) ≡ denied (room m) = rw e at h in never (cc)),
  λ k.
      let z : G ≡ k.0 = let q = k.1 in cc in
      let l : lent < length (rail_ends G) = rw z k.3 in
      let e : ltb lent (length (rail_ends G)) ≡ true = lt-ltb _ _ l in
      rw e (ap (λ j. denied (room j)) (rw z (sym k.2))),
)

-- ## A scenario on its map: 14, 15, 8

-- the carriers are more than one of the two lists has room for
abbrev pub NoRoomFor : List ℕ → List ℕ → List (Bay × Bay) → Type 0
NoRoomFor starts goals cs = (length starts < length cs) ⊎ (length goals < length cs)

short-words : (starts goals : List ℕ) (cs : List (Bay × Bay)) → (short starts goals cs ≡ true) ↔ NoRoomFor starts goals cs
short-words starts goals cs = (
  λ h. or_cases _ _ h (λ e. inl (ltb-true _ _ e)) (λ e. inr (ltb-true _ _ e)),
  λ h. ⊎_elim (λ l. or_left _ _ (lt-ltb _ _ l)) (λ l. or_right _ _ (lt-ltb _ _ l)) h,
)

module _ (starts goals : List ℕ) where
  never-listed : {P : Type 0} (cs : List (Bay × Bay)) (r : Refusal) → (r ≡ room (length cs) → P) → list_verdict starts goals (listed cs) ≡ denied r → P
  never-listed cs r f h =
      by_cases (short starts goals cs)
      (λ e. let k : denied (room (length cs)) ≡ denied r = rw e at h in f (let z : room (length cs) ≡ r = cc in sym z))
      (λ e. let k : granted (length cs) ≡ denied r = rw e at h in never (cc))

  -- of what the scenario reads as
  in-15 : (s : Read (List (Bay × Bay))) (n : ℕ) → (list_verdict starts goals (listing_in s) ≡ denied (bad_scenario n)) ↔ (s ≡ bad_line n)
  in-15 (bad_line k) n = (λ h. let z : k ≡ n = cc in ap bad_line z, λ h. let z : k ≡ n = cc in ap (λ j. denied (bad_scenario j)) z)
  in-15 (good cs) n = (never-listed cs (bad_scenario n) (λ q. never (cc)), λ h. never (cc))

  in-8 : (s : Read (List (Bay × Bay))) (m : ℕ) → (list_verdict starts goals (listing_in s) ≡ denied (room m))
      ↔ ((cs : List (Bay × Bay)) × (s ≡ good cs) × (m ≡ length cs) × NoRoomFor starts goals cs)
  in-8 (bad_line k) m = (λ h. never (cc), λ h. let q = h.1 in never (cc))
  in-8 (good cs) m = (
    λ h. by_cases (short starts goals cs)
        (λ e. let k : denied (room (length cs)) ≡ denied (room m) = rw e at h in (cs, refl, sym (room-same k), (short-words starts goals cs).0 e))
        (λ e. let k : granted (length cs) ≡ denied (room m) = rw e at h in never (cc)),
    λ k.
        let z : cs ≡ k.0 = let q = k.1 in cc in
        let e : short starts goals cs ≡ true = (short-words starts goals cs).1 (rw z k.3) in
        rw e (ap (λ j. denied (room j)) (rw z (sym k.2))),
  )

  in-not-14 : (s : Read (List (Bay × Bay))) (n : ℕ) → list_verdict starts goals (listing_in s) ≡ denied (bad_map n) → ⊥
  in-not-14 (bad_line k) n h = never (cc)
  in-not-14 (good cs) n h = never-listed cs (bad_map n) (λ q. never (cc)) h

  module _ (file : Text) where
    -- 14 before the scenario is looked at
    pub scenario-file-14 : (r : Read Grid) (n : ℕ) → (list_verdict starts goals (listing r file) ≡ denied (bad_map n)) ↔ (r ≡ bad_line n)
    scenario-file-14 (bad_line k) n = (λ h. let z : k ≡ n = cc in ap bad_line z, λ h. let z : k ≡ n = cc in ap (λ j. denied (bad_map j)) z)
    scenario-file-14 (good G) n = (λ h. absurd (in-not-14 (read_scenario G.width G.height (bay_in G) file) n h), λ h. never (cc))

    -- 15 on a map that keeps its layout
    pub scenario-file-15 : (r : Read Grid) (n : ℕ) → (list_verdict starts goals (listing r file) ≡ denied (bad_scenario n))
        ↔ ((G : Grid) × (r ≡ good G) × (read_scenario G.width G.height (bay_in G) file ≡ bad_line n))
    scenario-file-15 (bad_line k) n = (λ h. never (cc), λ h. let q = h.1 in never (cc))
    scenario-file-15 (good G) n =
        let e = in-15 (read_scenario G.width G.height (bay_in G) file) n in (
          λ h. (G, refl, e.0 h),
          λ k. let z : G ≡ k.0 = let q = k.1 in cc in e.1 (rw z k.2),
        )

    -- 8 where both files keep their layouts, with the number of carriers
    pub scenario-file-8 : (r : Read Grid) (m : ℕ) → (list_verdict starts goals (listing r file) ≡ denied (room m))
        ↔ ((G : Grid) × (cs : List (Bay × Bay)) × (r ≡ good G) × (read_scenario G.width G.height (bay_in G) file ≡ good cs) × (m ≡ length cs) × NoRoomFor starts goals cs)
    scenario-file-8 (bad_line k) m = (λ h. never (cc), λ h. let q = h.2 in never (cc))
    scenario-file-8 (good G) m =
        let e = in-8 (read_scenario G.width G.height (bay_in G) file) m in (
          λ h. let k = e.0 h in (G, k.0, refl, k.1, k.2, k.3),
          λ k. let z : G ≡ k.0 = let q = k.2 in cc in e.1 (k.1, rw z k.3, k.4, k.5),
        )

-- ## A surveyors' file: 16, then 1 to 3, then 8

module _ (lent : ℕ) where
  survey-never-16 : (n : ℕ) (ends : List Bay) (l : ℕ) → unless_denied (read_refusal n ends lent) (length ends) ≡ denied (bad_survey l) → ⊥
  unfolding elem
  survey-never-16 n ends l h =
      not-both (given-number (survey_rows n ends lent) 16 (some l) ((survey-denies n ends lent (bad_survey l)).0 h)) refl

  of-survey : (r : Read (ℕ × List Bay)) (n : ℕ) → (read_answer r lent ≡ denied (bad_survey n)) ↔ (r ≡ bad_line n)
  of-survey (bad_line k) n = (λ h. let z : k ≡ n = cc in ap bad_line z, λ h. let z : k ≡ n = cc in ap (λ j. denied (bad_survey j)) z)
  of-survey (good y) n = (λ h. absurd (survey-never-16 y.0 y.1 n h), λ h. never (cc))

  -- 16 exactly if the layout is broken, with the first bad line, before all else.
  pub survey-16 : (file : Text) (d : ℕ) → (read_answer (read_survey file) lent ≡ denied (bad_survey (suc d))) ↔ BreaksAfter file d
  survey-16 file d =
      let e = of-survey (read_survey file) (suc d) in
      let f = broken-exactly file d in
      (λ h. f.0 (e.0 h), λ k. e.1 (f.1 k))

  -- Where the layout is kept, 1 to 3 and 8 decide.
  pub survey-then : (file : Text) (n : ℕ) (ends : List Bay) → read_survey file ≡ good (n, ends) → (r : Refusal)
      → (read_answer (read_survey file) lent ≡ denied r) ↔ Given (survey_rows n ends lent) (number r) (carried r)
  survey-then file n ends h r =
      let e : read_answer (read_survey file) lent ≡ unless_denied (read_refusal n ends lent) (length ends) = ap (λ f. read_answer f lent) h in
      let f = survey-denies n ends lent r in
      (λ k. f.0 (sym e ∙ k), λ g. e ∙ f.1 g)
