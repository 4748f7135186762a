-- The file program tests 14, then 15, then plans, and each of its refusals is given exactly if the words of its row hold.
use mathlib.Core.Path.{◌≡◌, refl, sym, ◌∙◌, ap}
use mathlib.Core.Bool.{true}
use mathlib.Core.List.{List, [], ◌∷◌, map}
use mathlib.Core.Logic.{◌↔◌}
use mathlib.Core.Option.{Option, none, some}
use Prim.Native.Nat.{ℕ, zero, suc, ◌≤◌}
use native.Mathlib.Omega.{arith}
use Rattle.paper.specs.Basics.{elem}
use Rattle.paper.specs.Yard.{Bay}
use Rattle.paper.specs.Order.{order}
use Rattle.paper.specs.Docket.{Refusal, bad_map, bad_scenario, number, carried}
use Rattle.paper.specs.Answers.{refused, plan}
use Rattle.paper.specs.Text.{Text, Read, good, bad_line}
use Rattle.paper.specs.Map.{Grid, read_map, bay_count, bay_in, rail_ends}
use Rattle.paper.specs.Scenario.{read_scenario}
use Rattle.paper.specs.Program.{program_room, read_file, plan_read, scenario_read, program_answer}
use Rattle.paper.proofs.Tests.{never, not-both, by_read}
use Rattle.exactly.specs.First.{Given, numbers_of}
use Rattle.exactly.proofs.First.{given-number}
use Rattle.exactly.proofs.Planning.{plan-refuses}
use Rattle.layouts.specs.Orders.{BadFile, GoodFile, BadMap, GoodMap, BadScenario, GoodScenario, order_rows}
use Rattle.layouts.proofs.Map.{map-good, map-bad, map-from-one}
use Rattle.layouts.proofs.Scenario.{scenario-good, scenario-bad, scenario-from-one}

-- ## A file that may not be readable

module _ {A : Type 0} (read : Text → Read A) (Bad : Text → ℕ → Type 0) (Good : Text → A → Type 0)
    (bad : (bs : Text) (d : ℕ) → (read bs ≡ bad_line (suc d)) ↔ Bad bs d)
    (from_one : (bs : Text) (n : ℕ) → read bs ≡ bad_line n → 1 ≤ n)
    (good-words : (bs : Text) (a : A) → (read bs ≡ good a) ↔ Good bs a) where
  file-bad : (file : Option Text) (n : ℕ) → (read_file read file ≡ bad_line n) ↔ BadFile Bad file n
  unfolding read_file
  file-bad none n = (λ h. let z : 0 ≡ n = cc in sym z, λ e. ap bad_line (sym e))
  file-bad (some bs) zero = (λ h. absurd (omega (arith, from_one bs 0 h)), λ k. absurd (omega (arith, k.1)))
  file-bad (some bs) (suc d) = (
    λ h. (d, refl, (bad bs d).0 h),
    λ k. let e : suc k.0 ≡ suc d = sym k.1 in (bad bs k.0).1 k.2 ∙ ap bad_line e,
  )

  file-good : (file : Option Text) (a : A) → (read_file read file ≡ good a) ↔ GoodFile Good file a
  unfolding read_file
  file-good none a = (λ h. never (cc), λ k. absurd k)
  file-good (some bs) a = good-words bs a

pub map-file-bad : (file : Option Text) (n : ℕ) → (read_file read_map file ≡ bad_line n) ↔ BadMap file n
map-file-bad = file-bad read_map _ _ map-bad map-from-one map-good

pub map-file-good : (file : Option Text) (G : Grid) → (read_file read_map file ≡ good G) ↔ GoodMap file G
map-file-good = file-good read_map _ _ map-bad map-from-one map-good

module _ (G : Grid) where
  abbrev reading : Text → Read (List (Bay × Bay))
  reading = read_scenario G.width G.height (bay_in G)

  pub scenario-file-bad : (file : Option Text) (n : ℕ) → (read_file reading file ≡ bad_line n) ↔ BadScenario G file n
  scenario-file-bad =
      file-bad reading _ _ (scenario-bad G.width G.height (bay_in G)) (scenario-from-one G.width G.height (bay_in G)) (scenario-good G.width G.height (bay_in G))

  pub scenario-file-good : (file : Option Text) (cs : List (Bay × Bay)) → (read_file reading file ≡ good cs) ↔ GoodScenario G file cs
  scenario-file-good =
      file-good reading _ _ (scenario-bad G.width G.height (bay_in G)) (scenario-from-one G.width G.height (bay_in G)) (scenario-good G.width G.height (bay_in G))

  -- planning never answers 14 or 15
  planned_below : (cs : List (Bay × Bay)) (r : Refusal)
      → plan (order (bay_count G) (rail_ends G) (map (λ c. c.0) cs) (map (λ c. c.1) cs)) program_room ≡ refused r
      → elem (number r) (numbers_of (order_rows G cs)) ≡ true
  planned_below cs r h =
      given-number (order_rows G cs) (number r) (carried r)
      ((plan-refuses (order (bay_count G) (rail_ends G) (map (λ c. c.0) cs) (map (λ c. c.1) cs)) program_room r).0 h)

module _ (map_file scenario_file : Option Text) where
  -- every way in which the answer comes about
  by-files : {P : Type 0}
      → ((n : ℕ) → BadMap map_file n → program_answer map_file scenario_file ≡ refused (bad_map n) → P)
      → ((G : Grid) → GoodMap map_file G → (n : ℕ) → BadScenario G scenario_file n → program_answer map_file scenario_file ≡ refused (bad_scenario n) → P)
      → ((G : Grid) → GoodMap map_file G → (cs : List (Bay × Bay)) → GoodScenario G scenario_file cs
      → program_answer map_file scenario_file ≡ plan (order (bay_count G) (rail_ends G) (map (λ c. c.0) cs) (map (λ c. c.1) cs)) program_room → P)
      → P
  unfolding program_answer scenario_read plan_read
  by-files f g h =
      by_read (read_file read_map map_file)
      (λ G e. by_read (read_file (reading G) scenario_file)
      (λ cs k. h G ((map-file-good map_file G).0 e) cs ((scenario-file-good G scenario_file cs).0 k) (rw (e, k)))
      (λ n k. g G ((map-file-good map_file G).0 e) n ((scenario-file-bad G scenario_file n).0 k) (rw (e, k))))
      (λ n e. f n ((map-file-bad map_file n).0 e) (rw e))

  map-answer : (n : ℕ) → BadMap map_file n → program_answer map_file scenario_file ≡ refused (bad_map n)
  unfolding program_answer scenario_read
  map-answer n k = let e = (map-file-bad map_file n).1 k in rw e

  scenario-answer : (G : Grid) → GoodMap map_file G → (n : ℕ) → BadScenario G scenario_file n → program_answer map_file scenario_file ≡ refused (bad_scenario n)
  unfolding program_answer scenario_read plan_read
  scenario-answer G m n k =
      let e = (map-file-good map_file G).1 m in
      let f = (scenario-file-bad G scenario_file n).1 k in
      rw (e, f)

  -- Where both files keep their layout, the program plans what they say.
  pub program-plans : (G : Grid) → GoodMap map_file G → (cs : List (Bay × Bay)) → GoodScenario G scenario_file cs
      → program_answer map_file scenario_file ≡ plan (order (bay_count G) (rail_ends G) (map (λ c. c.0) cs) (map (λ c. c.1) cs)) program_room
  unfolding program_answer scenario_read plan_read
  program-plans G m cs k =
      let e = (map-file-good map_file G).1 m in
      let f = (scenario-file-good G scenario_file cs).1 k in
      rw (e, f)

  -- 14 exactly if the map can't be read or breaks its layout, before all else.
  pub program-14 : (n : ℕ) → (program_answer map_file scenario_file ≡ refused (bad_map n)) ↔ BadMap map_file n
  unfolding elem
  program-14 n = (
    λ h. by-files
        (λ m k e. let z : m ≡ n = cc in rw (← z) k)
        (λ G g m k e. never (cc))
        (λ G g cs k e. not-both (planned_below G cs (bad_map n) (sym e ∙ h)) refl),
    map-answer n,
  )

  -- 15 exactly if the map is good and the scenario can't be read or breaks its layout.
  pub program-15 : (n : ℕ) → (program_answer map_file scenario_file ≡ refused (bad_scenario n)) ↔ ((G : Grid) × GoodMap map_file G × BadScenario G scenario_file n)
  unfolding elem
  program-15 n = (
    λ h. by-files
        (λ m k e. never (cc))
        (λ G g m k e. let z : m ≡ n = cc in (G, g, rw (← z) k))
        (λ G g cs k e. not-both (planned_below G cs (bad_scenario n) (sym e ∙ h)) refl),
    λ k. scenario-answer k.0 k.1 n k.2,
  )

  -- Any other refusal exactly if both files are good and planning gives it, by 1 to 8 in order.
  pub program-1-to-8 : (r : Refusal) → elem (number r) (1 ∷ 2 ∷ 3 ∷ 4 ∷ 5 ∷ 6 ∷ 7 ∷ 8 ∷ []) ≡ true
      → (program_answer map_file scenario_file ≡ refused r)
      ↔ ((G : Grid) × (cs : List (Bay × Bay)) × GoodMap map_file G × GoodScenario G scenario_file cs × Given (order_rows G cs) (number r) (carried r))
  unfolding elem
  program-1-to-8 r below = (
    λ h. by-files
        (λ m k e. let z : r ≡ bad_map m = cc in not-both (rw z at below) refl)
        (λ G g m k e. let z : r ≡ bad_scenario m = cc in not-both (rw z at below) refl)
        (λ G g cs k e. (G, cs, g, k, (plan-refuses (order (bay_count G) (rail_ends G) (map (λ c. c.0) cs) (map (λ c. c.1) cs)) program_room r).0 (sym e ∙ h))),
    λ k. program-plans k.0 k.2 k.1 k.3
        ∙ (plan-refuses (order (bay_count k.0) (rail_ends k.0) (map (λ c. c.0) k.1) (map (λ c. c.1) k.1)) program_room r).1 k.4,
  )
