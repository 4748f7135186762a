-- Every order fits in 16,384 ends of rails and 254 carriers: a cell is the lower bay of two rails at most, and a 255th carrier's line is bad.
use Rattle.std.specs.Prelude.{if◌then◌else◌}
use mathlib.Core.Path.{◌≡◌, refl}
use mathlib.Core.Bool.{Bool, true, false}
use mathlib.Core.List.{List, [], ◌∷◌, ◌++◌, map}
use mathlib.Core.Option.{Option, none, some}
use Prim.Native.Nat.{ℕ, suc, ◌+◌, ◌*◌, ◌%◌, ◌≤◌, ◌<◌}
use native.Mathlib.Omega.{arith}
use native.Mathlib.Nat.{mul-le-mul}
use lib.Dec.{ltb}
use lib.ListN.{length, length-append}
use borrow.Author.Tests.{ltb-true}
use Rattle.paper.specs.Basics.{◌and◌, ◌or◌, concat, up_to}
use Rattle.paper.specs.Limits.{most_carriers}
use Rattle.paper.specs.Yard.{Bay}
use Rattle.paper.specs.Text.{Text, text, TAB, lines, split, same, Read, good, bad_line, read_lines}
use Rattle.paper.specs.Map.{Grid, read_map, cells, bay_at, number_at, bay_in, rails_at, rail_ends}
use Rattle.paper.specs.Scenario.{Listed, version_due, carriers, carrier_line, scenario_line, scenario_end, read_scenario}
use Rattle.paper.specs.Program.{read_file}
use Rattle.paper.proofs.Tests.{by_cases, by-option, never, some-when, some-from, by_read}
use Rattle.paper.proofs.Reach.{count-length}
use Rattle.gridmap.proofs.Good.{Sized}
use Rattle.filing.specs.Filing.{order, carriers_filed, map_filed, filed}
use Rattle.filing.proofs.Joining.{map-is-sized}

-- ## Rails
pair-few : (q : Bool) (a b : ℕ) → length (if q then a ∷ b ∷ [] else []) ≤ 2
pair-few true a b = omega arith
pair-few false a b = omega arith

at-few : (G : Grid) (i : ℕ) → length (rails_at G i) ≤ 4
unfolding rails_at
at-few G i =
    by_cases (bay_at G i)
    (λ e. rw e (simp length-append (omega (arith, pair-few (ltb (suc (i % G.width)) G.width and bay_at G (suc i)) (number_at G i) (number_at G (suc i)), pair-few (bay_at G (i + G.width)) (number_at G i) (number_at G (i + G.width))))))
    (λ e. rw e (omega arith))

concat-few : (f : ℕ → List ℕ) → ((i : ℕ) → length (f i) ≤ 4) → (l : List ℕ) → length (concat (map f l)) ≤ 4 * length l
unfolding concat
concat-few f h [] = omega arith
concat-few f h (i ∷ l) = simp length-append (omega (arith, h i, concat-few f h l))

rails-few : (G : Grid) → Sized G → length (rail_ends G) ≤ 16384
unfolding rail_ends
rails-few G s =
    let m : G.height * G.width ≤ 64 * 64 = mul-le-mul s.high s.wide in
    omega (arith, s.full, concat-few (rails_at G) (at-few G) (up_to (length (cells G))), count-length 0 (length (cells G)))

-- ## Carriers
abbrev so_far : Listed → ℕ
so_far version_due = 0
so_far (carriers cs) = length cs

module _ (W H : ℕ) (bay : ℕ → ℕ → Option Bay) where
  line-few : (a : Listed) (l : Text) (a' : Listed) → scenario_line W H bay a l ≡ some a' → so_far a' ≤ most_carriers
  unfolding scenario_line
  line-few version_due l a' e = let q = some-when (same l (text "version 1") or same l (text "version 1.0")) (carriers []) e in rw (← q.1) (omega arith)
  line-few (carriers cs) l a' e =
      by_cases (ltb (length cs) most_carriers)
      (λ h.
      let q = some-from (λ c. carriers (cs ++ (c ∷ []))) (carrier_line W H bay (split TAB l)) (rw h at e) in
      let i : length cs < most_carriers = ltb-true _ _ h in
      let g : carriers (cs ++ (q.0 ∷ [])) ≡ a' = q.2 in
      rw (← g) (omega (arith, length-append cs (q.0 ∷ []))))
      (λ h. let z : none ≡ some a' = rw h at e in never (cc))

  end-few : (a : Listed) (cs : List (Bay × Bay)) → scenario_end W H bay a ≡ some cs → so_far a ≤ most_carriers → length cs ≤ most_carriers
  unfolding scenario_end
  end-few version_due cs e h = never (cc)
  end-few (carriers ds) cs e h = let z : ds ≡ cs = cc in rw (← z) h

  lines-few : (n : ℕ) (a : Listed) (ls : List Text) (cs : List (Bay × Bay)) → read_lines (scenario_line W H bay) (scenario_end W H bay) n a ls ≡ good cs → so_far a ≤ most_carriers → length cs ≤ most_carriers
  unfolding read_lines
  lines-few n a [] cs e h =
      by-option (scenario_end W H bay a)
      (λ q. let z : bad_line n ≡ good cs = rw q at e in never (cc))
      (λ ds q. let z : good ds ≡ good cs = rw q at e in let y : ds ≡ cs = cc in rw (← y) (end-few a ds q h))
  lines-few n a (l ∷ ls) cs e h =
      by-option (scenario_line W H bay a l)
      (λ q. let z : bad_line n ≡ good cs = rw q at e in never (cc))
      (λ a' q. lines-few (suc n) a' ls cs (rw q at e) (line-few a l a' q))

  carriers-few : (file : Option Text) (cs : List (Bay × Bay)) → read_file (read_scenario W H bay) file ≡ good cs → length cs ≤ most_carriers
  unfolding read_file read_scenario
  carriers-few none cs e = never (cc)
  carriers-few (some t) cs e = lines-few 1 version_due (lines t) cs e (omega arith)

-- ## An order
pub record Fits (ends : List ℕ) (cs : List (Bay × Bay)) : Type 0 where
  pub rails : length ends ≤ 16384
  pub carriers : length cs ≤ most_carriers

fits-scenario : (G : Grid) → Sized G → (r : Read (List (Bay × Bay))) → ((cs : List (Bay × Bay)) → r ≡ good cs → length cs ≤ most_carriers) → (n : ℕ) (ends : List ℕ) (cs : List (Bay × Bay)) → carriers_filed G r ≡ order n ends cs → Fits ends cs
fits-scenario G s (bad_line l) few n ends cs e = never (cc)
fits-scenario G s (good ds) few n ends cs e =
    let a : rail_ends G ≡ ends = cc in
    let b : ds ≡ cs = cc in
    rw (← a, ← b) (record { rails = rails-few G s; carriers = few ds refl })

pub order-fits : (map_file scenario_file : Option Text) (n : ℕ) (ends : List ℕ) (cs : List (Bay × Bay)) → filed map_file scenario_file ≡ order n ends cs → Fits ends cs
unfolding filed
order-fits map_file scenario_file n ends cs e =
    by_read (read_file read_map map_file)
    (λ G q. fits-scenario G (map-is-sized map_file G q) (read_file (read_scenario G.width G.height (bay_in G)) scenario_file) (carriers-few G.width G.height (bay_in G) scenario_file) n ends cs (rw q at e))
    (λ l q. let z : map_filed (bad_line l) scenario_file ≡ order n ends cs = rw q at e in never (cc))
