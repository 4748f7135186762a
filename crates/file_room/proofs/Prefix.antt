-- 4,264 bytes of a map and 49,036 of a scenario decide what the program prints: the longest good files are one byte shorter.
use mathlib.Core.Path.{◌≡◌, refl, ◌∙◌, ap}
use mathlib.Core.Bool.{true}
use mathlib.Core.List.{List, [], ◌∷◌, ◌++◌}
use mathlib.Core.Option.{Option, none, some}
use Prim.Native.Nat.{ℕ, suc, ◌+◌, ◌-◌, ◌*◌, ◌≤◌, ◌<◌}
use native.Mathlib.Omega.{arith}
use native.Mathlib.Nat.{mul-le-mul, add-mul}
use lib.Dec.{eqb, ltb}
use lib.ListN.{length, get_or, take, drop, length-append, drop_of_length-le}
use lib.Seq.{drop-cons}
use borrow.Author.Tests.{ltb-true, leb-true, eqb-true}
use Rattle.paper.specs.Basics.{◌and◌, ◌or◌}
use Rattle.paper.specs.Limits.{most_carriers}
use Rattle.paper.specs.Yard.{Bay}
use Rattle.paper.specs.Text.{Text, text, TAB, join, split, same, sized, is_number, Read, good, bad_line}
use Rattle.paper.specs.Map.{Grid, Due, type_due, height_due, width_due, map_due, row_due, side_after, is_row, map_line, map_end, read_map, bay_in}
use Rattle.paper.specs.Scenario.{Listed, version_due, carriers, is_length, nine_fields, carrier_line, scenario_line, scenario_end, read_scenario}
use Rattle.paper.specs.Print.{printed}
use Rattle.paper.specs.Program.{read_file, scenario_read, program_answer, program}
use Rattle.paper.proofs.Tests.{by_cases, and_left, and_right, never, or_cases, some-when, some-from, some_same}
use Rattle.laws.proofs.Lines.{same-exactly}
use Rattle.gridmap.proofs.Good.{sided}
use Rattle.file_room.specs.Room.{map_bytes, scenario_bytes}
use Rattle.file_room.proofs.Enough.{decided}

same-sized : (l w : Text) → same l w ≡ true → length l ≡ length w
same-sized l w h = ap length ((same-exactly l w).0 h)

-- ## The map
abbrev map_most : Due → ℕ
map_most type_due = 4263
map_most height_due = 4250
map_most (width_due h) = 15 + h * 66
map_most (map_due h w) = 5 + h * (w + 2)
map_most (row_due h w rs) = (h - length rs) * (w + 2)

row-bounded : (h w : ℕ) (rs : List Text) (l : Text) → length rs < h → is_row w l ≡ true → length l + 2 + (h - length (rs ++ (l ∷ []))) * (w + 2) ≤ (h - length rs) * (w + 2)
unfolding is_row
row-bounded h w rs l i r =
    let n : length l ≡ w = eqb-true _ _ (and_left _ _ r) in
    let k : h - length rs ≡ 1 + (h - length (rs ++ (l ∷ []))) = omega (arith, length-append rs (l ∷ [])) in
    let j : (1 + (h - length (rs ++ (l ∷ [])))) * (w + 2) ≡ 1 * (w + 2) + (h - length (rs ++ (l ∷ []))) * (w + 2) = add-mul 1 (h - length (rs ++ (l ∷ []))) (w + 2) in
    rw k (rw j (omega arith))

map-bounded : (d : Due) (l : Text) (d' : Due) → map_line d l ≡ some d' → length l + 2 + map_most d' ≤ map_most d
unfolding map_line
map-bounded type_due l d' e =
    let q = some-when (same l (text "type octile")) height_due e in
    rw (← q.1) (omega (arith, same-sized l (text "type octile") q.0))
map-bounded height_due l d' e =
    let q = some-from width_due (side_after (text "height ") l) e in
    let s = sided (text "height ") l q.0 q.1 in
    let g : width_due q.0 ≡ d' = some_same (rw q.1 at e) in
    rw (← g) (omega (arith, s.short, s.most))
map-bounded (width_due h) l d' e =
    let q = some-from (map_due h) (side_after (text "width ") l) e in
    let s = sided (text "width ") l q.0 q.1 in
    let g : map_due h q.0 ≡ d' = some_same (rw q.1 at e) in
    let w : q.0 + 2 ≤ 66 = omega (arith, s.most) in
    let n : h ≤ h = omega arith in
    let m : h * (q.0 + 2) ≤ h * 66 = mul-le-mul n w in
    rw (← g) (omega (arith, s.short))
map-bounded (map_due h w) l d' e =
    let q = some-when (same l (text "map")) (row_due h w []) e in
    let k : h - 0 ≡ h = omega arith in
    rw (← q.1) (rw k (omega (arith, same-sized l (text "map") q.0)))
map-bounded (row_due h w rs) l d' e =
    let q = some-when (ltb (length rs) h and is_row w l) (row_due h w (rs ++ (l ∷ []))) e in
    let i = ltb-true _ _ (and_left _ _ q.0) in
    rw (← q.1) (row-bounded h w rs l i (and_right _ _ q.0))

pub map-decided : (t : Text) → read_map (take map_bytes t) ≡ read_map t
unfolding read_map
map-decided t = decided map_line map_end map_most map-bounded 1 type_due t map_bytes (omega arith)

-- ## The scenario
abbrev scenario_most : Listed → ℕ
scenario_most version_due = 13 + most_carriers * 193
scenario_most (carriers cs) = (most_carriers - length cs) * 193

-- the bytes of pieces, and a tab behind each
unfoldable tabbed : List Text → ℕ
tabbed [] = 0
tabbed (f ∷ fs) = suc (length f) + tabbed fs

tabbed-join : (b : ℕ) (fs : List Text) → 0 < tabbed fs → tabbed (join b fs) ≡ suc (tabbed fs)
unfolding tabbed join
tabbed-join b [] h = absurd (omega arith)
tabbed-join b (f ∷ fs) h = omega arith

tabbed-split : (t : ℕ) (l : Text) → tabbed (split t l) ≡ suc (length l)
unfolding tabbed split
tabbed-split t [] = refl
tabbed-split t (b ∷ l) =
    let ih = tabbed-split t l in
    by_cases (eqb b t)
    (λ e. rw e (omega arith))
    (λ e. rw e (tabbed-join b (split t l) (omega arith) ∙ ap suc ih))

tabbed-at : (fs : List Text) (k : ℕ) → k < length fs → tabbed (drop k fs) ≡ suc (length (get_or fs k [])) + tabbed (drop (suc k) fs)
unfolding tabbed
tabbed-at fs k h = ap tabbed (drop-cons fs k [] h)

tabbed-end : (fs : List Text) (k : ℕ) → length fs ≤ k → tabbed (drop k fs) ≡ 0
unfolding tabbed
tabbed-end fs k h = ap tabbed (drop_of_length-le fs {i = k} h)

sized-short : (k : ℕ) (l : Text) → sized k l ≡ true → length l ≤ k
unfolding sized
sized-short k l h = leb-true _ _ (and_right _ _ h)

number_short : (k : ℕ) (l : Text) → is_number k l ≡ true → length l ≤ k
unfolding is_number
number_short k l h = sized-short k l (and_left _ _ h)

length-short : (l : Text) → is_length l ≡ true → length l ≤ 20
unfolding is_length
length-short l h = sized-short 20 l (and_left _ _ (and_left _ _ (and_left _ _ h)))

module _ (W H : ℕ) (bay : ℕ → ℕ → Option Bay) where
  fields-short : (fs : List Text) → nine_fields W H bay fs ≡ true → tabbed fs ≤ 192
  unfolding nine_fields
  fields-short fs h =
      let n : length fs ≡ 9 = eqb-true _ _ (and_left _ _ h) in
      let to-8 = and_right _ _ h in
      let to-7 = and_left _ _ to-8 in
      let to-6 = and_left _ _ to-7 in
      let to-5 = and_left _ _ to-6 in
      let to-4 = and_left _ _ to-5 in
      let to-3 = and_left _ _ to-4 in
      let to-2 = and_left _ _ to-3 in
      let to-1 = and_left _ _ to-2 in
      let f-0 : length (get_or fs 0 []) ≤ 5 = number_short 5 _ (and_left _ _ to-1) in
      let f-1 : length (get_or fs 1 []) ≤ 128 = sized-short 128 _ (and_right _ _ to-1) in
      let f-2 : length (get_or fs 2 []) ≤ 5 = number_short 5 _ (and_left _ _ (and_right _ _ to-2)) in
      let f-3 : length (get_or fs 3 []) ≤ 5 = number_short 5 _ (and_left _ _ (and_right _ _ to-3)) in
      let f-4 : length (get_or fs 4 []) ≤ 5 = number_short 5 _ (and_right _ _ to-4) in
      let f-5 : length (get_or fs 5 []) ≤ 5 = number_short 5 _ (and_right _ _ to-5) in
      let f-6 : length (get_or fs 6 []) ≤ 5 = number_short 5 _ (and_right _ _ to-6) in
      let f-7 : length (get_or fs 7 []) ≤ 5 = number_short 5 _ (and_right _ _ to-7) in
      let f-8 : length (get_or fs 8 []) ≤ 20 = length-short _ (and_right _ _ to-8) in
      let t-0 : tabbed fs ≡ suc (length (get_or fs 0 [])) + tabbed (drop 1 fs) = tabbed-at fs 0 (omega arith) in
      let t-1 = tabbed-at fs 1 (omega arith) in
      let t-2 = tabbed-at fs 2 (omega arith) in
      let t-3 = tabbed-at fs 3 (omega arith) in
      let t-4 = tabbed-at fs 4 (omega arith) in
      let t-5 = tabbed-at fs 5 (omega arith) in
      let t-6 = tabbed-at fs 6 (omega arith) in
      let t-7 = tabbed-at fs 7 (omega arith) in
      let t-8 = tabbed-at fs 8 (omega arith) in
      let t-9 = tabbed-end fs 9 (omega arith) in
      omega arith

  carrier-short : (l : Text) (c : Bay × Bay) → carrier_line W H bay (split TAB l) ≡ some c → length l ≤ 191
  unfolding carrier_line
  carrier-short l c e =
      by_cases (nine_fields W H bay (split TAB l))
      (λ h. omega (arith, fields-short (split TAB l) h, tabbed-split TAB l))
      (λ h. let z : none ≡ some c = rw h at e in never (cc))

  scenario-bounded : (a : Listed) (l : Text) (a' : Listed) → scenario_line W H bay a l ≡ some a' → length l + 2 + scenario_most a' ≤ scenario_most a
  unfolding scenario_line
  scenario-bounded version_due l a' e =
      let q = some-when (same l (text "version 1") or same l (text "version 1.0")) (carriers []) e in
      or_cases (same l (text "version 1")) (same l (text "version 1.0")) q.0
      (λ h. rw (← q.1) (omega (arith, same-sized l (text "version 1") h)))
      (λ h. rw (← q.1) (omega (arith, same-sized l (text "version 1.0") h)))
  scenario-bounded (carriers cs) l a' e =
      by_cases (ltb (length cs) most_carriers)
      (λ h.
      let q = some-from (λ c. carriers (cs ++ (c ∷ []))) (carrier_line W H bay (split TAB l)) (rw h at e) in
      let i : length cs < most_carriers = ltb-true _ _ h in
      let s : length l ≤ 191 = carrier-short l q.0 q.1 in
      let n : length (cs ++ (q.0 ∷ [])) ≡ length cs + 1 = length-append cs (q.0 ∷ []) in
      let g : carriers (cs ++ (q.0 ∷ [])) ≡ a' = q.2 in
      rw (← g) (omega arith))
      (λ h. let z : none ≡ some a' = rw h at e in never (cc))

  pub scenario-decided : (t : Text) → read_scenario W H bay (take scenario_bytes t) ≡ read_scenario W H bay t
  unfolding read_scenario
  scenario-decided t = decided (scenario_line W H bay) (scenario_end W H bay) scenario_most scenario-bounded 1 version_due t scenario_bytes (omega arith)

-- ## What is printed
abbrev pub shortened : ℕ → Option Text → Option Text
shortened m none = none
shortened m (some t) = some (take m t)

map-shortened : (file : Option Text) → read_file read_map (shortened map_bytes file) ≡ read_file read_map file
unfolding read_file
map-shortened none = refl
map-shortened (some t) = map-decided t

scenario-shortened : (r : Read Grid) (file : Option Text) → scenario_read r (shortened scenario_bytes file) ≡ scenario_read r file
unfolding scenario_read read_file
scenario-shortened (bad_line l) file = refl
scenario-shortened (good G) none = refl
scenario-shortened (good G) (some t) = rw (scenario-decided G.width G.height (bay_in G) t)

-- The program answers the same for the first bytes of its files as for the whole files,
pub answer-decided : (map_file scenario_file : Option Text)
    → program_answer (shortened map_bytes map_file) (shortened scenario_bytes scenario_file) ≡ program_answer map_file scenario_file
unfolding program_answer
answer-decided map_file scenario_file =
    ap (λ r. scenario_read r (shortened scenario_bytes scenario_file)) (map-shortened map_file) ∙ scenario-shortened (read_file read_map map_file) scenario_file

-- and so it prints the same.
pub program-decided : (map_file scenario_file : Option Text) → program (shortened map_bytes map_file) (shortened scenario_bytes scenario_file) ≡ program map_file scenario_file
unfolding program
program-decided map_file scenario_file = ap printed (answer-decided map_file scenario_file)
