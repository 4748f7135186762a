-- What the parts read is the order: the cells that the map's reading leaves give the map's own rails and bays.
use Rattle.std.proofs.Common.{Err, Ok}
use mathlib.Core.Path.{◌≡◌, refl, ◌∙◌, ap}
use mathlib.Core.Bool.{Bool, true, false}
use mathlib.Core.List.{List}
use mathlib.Core.Option.{Option, none, some}
use Prim.Native.Nat.{ℕ, ◌*◌, ◌≤◌}
use native.Mathlib.Omega.{arith}
use native.Mathlib.Nat.{mul-le-mul}
use lib.ListN.{length}
use lib.Seq.{sets}
use Rattle.paper.specs.Yard.{Bay}
use Rattle.paper.specs.Text.{Text, Read, good, bad_line}
use Rattle.paper.specs.Map.{Grid, read_map, cells, bay_count, bay_in, rail_ends}
use Rattle.paper.specs.Scenario.{read_scenario}
use Rattle.paper.specs.Program.{read_file, plan_read, scenario_read, program_answer}
use Rattle.stores.specs.Writing.{Wrote}
use Rattle.paper.proofs.Tests.{never, by_read}
use Rattle.docket.specs.declared.Refusal.{Refusal}
use Rattle.docket.specs.declared.Refusal.TheVariants as docket
use Rattle.docket.specs.Reading.{refusal_of}
use Rattle.gridmap.specs.declared.Grid.{Grid as Held}
use Rattle.gridmap.specs.MapRead.{MapRead}
use Rattle.gridmap.specs.Cells.{numbering, rails_in, bay_found, shape_of, Reads as MapReads}
use Rattle.gridmap.proofs.Good.{Sized, map-sized}
use Rattle.gridmap.proofs.OfMap.{rails-of-map}
use Rattle.scenario.specs.ScenarioRead.{ScenarioRead}
use Rattle.scenario.specs.Under.{count_read, Reads as ScenarioReads}
use Rattle.scenario.proofs.OfMap.{reads-of-map}
use Rattle.filing.specs.Filing.{file_of, MapFiled, scenario_in, ScenarioFiled, order, refusal, carriers_filed, map_filed, filed, answered, counts, Files}

-- ## One file
pub map-there : {q : Bool} {file before after : List ℕ} {r : MapRead} → q ≡ true → MapReads file before r after → MapFiled (file_of q file) before r after
unfolding read_file
map-there e h = rw e (record { answer = h.answer; numbers = h.numbers })

pub map-missing : {q : Bool} (file before : List ℕ) → q ≡ false → MapFiled (file_of q file) before (Err 0) before
unfolding read_file
map-missing file before e = rw e (record { answer = refl; numbers = refl })

pub scenario-there : {q : Bool} {file table starts₀ starts goals₀ goals : List ℕ} {G : Held} {r : ScenarioRead} → q ≡ true
    → ScenarioReads file G table r starts₀ starts goals₀ goals → ScenarioFiled (file_of q file) G table r starts₀ starts goals₀ goals
unfolding read_file
scenario-there e h = rw e (record { answer = h.answer; starts_left = h.starts_left; goals_left = h.goals_left })

pub scenario-missing : {q : Bool} (file table starts goals : List ℕ) (G : Held) → q ≡ false
    → ScenarioFiled (file_of q file) G table (Err 0) starts starts goals goals
unfolding read_file
scenario-missing file table starts goals G e = rw e (record { answer = refl; starts_left = refl; goals_left = refl })

-- ## The answer to an order is the program's
answered-carriers : (G : Grid) (r : Read (List (Bay × Bay))) → plan_read G r ≡ answered (carriers_filed G r)
unfolding plan_read
answered-carriers G (good cs) = refl
answered-carriers G (bad_line l) = refl

answered-map : (r : Read Grid) (file : Option Text) → scenario_read r file ≡ answered (map_filed r file)
unfolding scenario_read
answered-map (good G) file = answered-carriers G (read_file (read_scenario G.width G.height (bay_in G)) file)
answered-map (bad_line l) file = refl

pub program-answers : (map_file scenario_file : Option Text) → program_answer map_file scenario_file ≡ answered (filed map_file scenario_file)
unfolding program_answer filed
program-answers map_file scenario_file = answered-map (read_file read_map map_file) scenario_file

-- ## A map that was read
pub map-is-sized : (file : Option Text) (G : Grid) → read_file read_map file ≡ good G → Sized G
unfolding read_file
map-is-sized none G e = never (cc)
map-is-sized (some bytes) G e = map-sized bytes G e

record Mapped (file : Option Text) (before : List ℕ) (g : Held) (table : List ℕ) : Type 0 where
  grid : Grid
  reads : read_file read_map file ≡ good grid
  sized : Sized grid
  high : g.height ≡ grid.height
  wide : g.width ≡ grid.width
  bays : g.bays ≡ bay_count grid
  numbers : table ≡ sets before 0 (numbering 0 (cells grid))
  room : length (cells grid) ≤ length before

mapped : (file : Option Text) (before : List ℕ) (g : Held) (table : List ℕ) → 4096 ≤ length before → MapFiled file before (Ok g) table → Mapped file before g table
mapped file before g table fits m =
    by_read (read_file read_map file)
    (λ G q.
    let y : ◌≡◌ {A = Read (ℕ × ℕ × ℕ)} (good (g.height, g.width, g.bays)) (good (G.height, G.width, bay_count G)) = rw q at m.answer in
    let x : ◌≡◌ {A = ℕ × ℕ × ℕ} (g.height, g.width, g.bays) (G.height, G.width, bay_count G) = cc in
    let s = map-is-sized file G q in
    let k : G.height * G.width ≤ 64 * 64 = mul-le-mul s.high s.wide in
    record {
      grid = G;
      reads = q;
      sized = s;
      high = ap (λ p. p.0) x;
      wide = ap (λ p. p.1) x;
      bays = ap (λ p. p.2) x;
      numbers = rw q at m.numbers;
      room = omega (arith, s.full);
    })
    (λ n q. let y : ◌≡◌ {A = Read (ℕ × ℕ × ℕ)} (good (g.height, g.width, g.bays)) (bad_line n) = rw q at m.answer in never (cc))

-- the scenario by the cells is the scenario by the map
read-with : (G : Grid) → Sized G → (before : List ℕ) → length (cells G) ≤ length before → (file : Option Text)
    → read_file (read_scenario G.width G.height (λ x y. bay_found (sets before 0 (numbering 0 (cells G))) G.height G.width x y)) file
    ≡ read_file (read_scenario G.width G.height (bay_in G)) file
unfolding read_file
read-with G s before room none = refl
read-with G s before room (some bytes) = reads-of-map G s before room bytes

module _ {map_file : Option Text} {before : List ℕ} {g : Held} {table : List ℕ} (m : Mapped map_file before g table) where
  scenario-by : (file : Option Text) → scenario_in g table file ≡ read_file (read_scenario m.grid.width m.grid.height (bay_in m.grid)) file
  scenario-by file =
      (λ i. read_file (read_scenario (m.wide i) (m.high i) (λ x y. bay_found (m.numbers i) (m.high i) (m.wide i) x y)) file)
      ∙ read-with m.grid m.sized before m.room file

  rails-by : rails_in table g.height g.width ≡ rail_ends m.grid
  rails-by = (λ i. rails_in (m.numbers i) (m.high i) (m.wide i)) ∙ rails-of-map m.grid m.sized before m.room

  filed-by : (file : Option Text) → filed map_file file ≡ carriers_filed m.grid (scenario_in g table file)
  unfolding filed
  filed-by file = rw (m.reads, scenario-by file)

-- ## Both files
no-order : {map_file scenario_file : Option Text} (f : Refusal) (ends starts goals : List ℕ) → filed map_file scenario_file ≡ refusal (refusal_of f) → Files map_file scenario_file (Err f) ends ends starts starts goals goals
no-order f ends starts goals e = record { answer = rw e refl; ends_left = rw e refl; starts_left = rw e refl; goals_left = rw e refl }

module _ {map_file scenario_file : Option Text} {before table : List ℕ} {r : MapRead} (m : MapFiled map_file before r table) where
  pub map-refused : (l : ℕ) (ends starts goals : List ℕ) → r ≡ Err l → Files map_file scenario_file (Err (docket.BadMap l)) ends ends starts starts goals goals
  unfolding filed
  map-refused l ends starts goals e =
      by_read (read_file read_map map_file)
      (λ G q. let y : bad_line l ≡ shape_of (good G) = rw (e, q) at m.answer in never (cc))
      (λ n q.
      let y : bad_line l ≡ bad_line n = rw (e, q) at m.answer in
      let z : n ≡ l = cc in
      no-order (docket.BadMap l) ends starts goals (rw (q, z) refl))

  module _ (g : Held) (e : r ≡ Ok g) (fits : 4096 ≤ length before) {x : ScenarioRead} {starts₀ starts goals₀ goals : List ℕ} (s : ScenarioFiled scenario_file g table x starts₀ starts goals₀ goals) where
    pub scenario-refused : (l : ℕ) (ends : List ℕ) → x ≡ Err l → Files map_file scenario_file (Err (docket.BadScenario l)) ends ends starts₀ starts goals₀ goals
    scenario-refused l ends f =
        let held = mapped map_file before g table fits (rw e at m) in
        by_read (scenario_in g table scenario_file)
        (λ cs q. let y : bad_line l ≡ count_read (good cs) = rw (f, q) at s.answer in never (cc))
        (λ n q.
        let y : bad_line l ≡ bad_line n = rw (f, q) at s.answer in
        let z : n ≡ l = cc in
        let a : starts ≡ starts₀ = rw q at s.starts_left in
        let b : goals ≡ goals₀ = rw q at s.goals_left in
        rw (a, b) (no-order (docket.BadScenario l) ends starts₀ goals₀ (filed-by held scenario_file ∙ rw (q, z) refl)))

    pub order-filed : (k n : ℕ) {ends₀ ends : List ℕ} → x ≡ Ok k → Wrote ends₀ 0 (rails_in table g.height g.width) ends n
        → Files map_file scenario_file (Ok (record { bays = g.bays; ends = n; carriers = k })) ends₀ ends starts₀ starts goals₀ goals
    order-filed k n {ends₀} {ends} f w =
        let held = mapped map_file before g table fits (rw e at m) in
        by_read (scenario_in g table scenario_file)
        (λ cs q.
        let y : good k ≡ count_read (good cs) = rw (f, q) at s.answer in
        let c : k ≡ length cs = cc in
        let d : filed map_file scenario_file ≡ order (bay_count held.grid) (rail_ends held.grid) cs = filed-by held scenario_file ∙ rw q refl in
        let a = rails-by held in
        let b : n ≡ length (rails_in table g.height g.width) = omega (arith, w.counted) in
        let t : n ≡ length (rail_ends held.grid) = b ∙ ap length a in
        record {
          answer = rw d (λ i. counts (held.bays i) (t i) (c i));
          ends_left = rw d (w.left ∙ ap (sets ends₀ 0) a);
          starts_left = rw d (rw q at s.starts_left);
          goals_left = rw d (rw q at s.goals_left);
        })
        (λ l q. let y : good k ≡ bad_line l = rw (f, q) at s.answer in never (cc))
