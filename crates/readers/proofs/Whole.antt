-- A map that was read: its numbered cells give the map's own rails, and a scenario reads by them as it does by the map.
use Rattle.std.proofs.Common.{Err, Ok}
use mathlib.Core.Path.{◌≡◌, ◌∙◌, ap}
use mathlib.Core.List.{List}
use Prim.Native.Nat.{ℕ, ◌*◌, ◌≤◌}
use native.Mathlib.Omega.{arith}
use native.Mathlib.Nat.{mul-le-mul}
use lib.ListN.{length}
use lib.Seq.{sets}
use Rattle.paper.specs.Text.{Text, Read, good, bad_line}
use Rattle.paper.specs.Map.{Grid, read_map, cells, bay_count, bay_in, rail_ends}
use Rattle.paper.specs.Scenario.{read_scenario}
use Rattle.paper.proofs.Tests.{never, by_read}
use Rattle.gridmap.specs.declared.Grid.{Grid as Held}
use Rattle.gridmap.specs.MapRead.{MapRead}
use Rattle.gridmap.specs.Cells.{numbering, rails_in, bay_found, shape_of, Reads}
use Rattle.gridmap.proofs.Good.{map-sized}
use Rattle.gridmap.proofs.OfMap.{rails-of-map}
use Rattle.scenario.specs.Under.{bay_by}
use Rattle.scenario.proofs.OfMap.{reads-of-map}
use Rattle.listing.specs.Reading.{laid, laying, listing, listing_in}

module _ {file before table : List ℕ} {r : MapRead} (m : Reads file before r table) where
  pub map-bad : (l : ℕ) → r ≡ Err l → read_map file ≡ bad_line l
  map-bad l e =
      by_read (read_map file)
      (λ G q. let y : bad_line l ≡ shape_of (good G) = rw (e, q) at m.answer in never (cc))
      (λ n q.
      let y : bad_line l ≡ bad_line n = rw (e, q) at m.answer in
      let z : n ≡ l = cc in
      q ∙ ap bad_line z)

-- the map and what is held of it
pub record Mapped (file : Text) (g : Held) (table : List ℕ) : Type 0 where
  pub grid : Grid
  pub reads : read_map file ≡ good grid
  pub bays : g.bays ≡ bay_count grid
  pub rails : rails_in table g.height g.width ≡ rail_ends grid
  pub listed : (t : Text) → read_scenario g.width g.height (bay_by table g) t ≡ read_scenario grid.width grid.height (bay_in grid) t

pub mapped : {file before table : List ℕ} {g : Held} → Reads file before (Ok g) table → 4096 ≤ length before → Mapped file g table
mapped {file} {before} {table} {g} m fits =
    by_read (read_map file)
    (λ G q.
    let y : ◌≡◌ {A = Read (ℕ × ℕ × ℕ)} (good (g.height, g.width, g.bays)) (good (G.height, G.width, bay_count G)) = rw q at m.answer in
    let x : ◌≡◌ {A = ℕ × ℕ × ℕ} (g.height, g.width, g.bays) (G.height, G.width, bay_count G) = cc in
    let high : g.height ≡ G.height = ap (λ p. p.0) x in
    let wide : g.width ≡ G.width = ap (λ p. p.1) x in
    let numbers : table ≡ sets before 0 (numbering 0 (cells G)) = rw q at m.numbers in
    let s = map-sized file G q in
    let k : G.height * G.width ≤ 64 * 64 = mul-le-mul s.high s.wide in
    let room : length (cells G) ≤ length before = omega (arith, s.full) in
    record {
      grid = G;
      reads = q;
      bays = ap (λ p. p.2) x;
      rails = (λ i. rails_in (numbers i) (high i) (wide i)) ∙ rails-of-map G s before room;
      listed = λ t. (λ i. read_scenario (wide i) (high i) (λ x y. bay_found (numbers i) (high i) (wide i) x y) t) ∙ reads-of-map G s before room t;
    })
    (λ n q. let y : ◌≡◌ {A = Read (ℕ × ℕ × ℕ)} (good (g.height, g.width, g.bays)) (bad_line n) = rw q at m.answer in never (cc))

pub mapped-as : {file before table : List ℕ} {r : MapRead} {g : Held} → Reads file before r table → r ≡ Ok g → 4096 ≤ length before → Mapped file g table
mapped-as m e fits = mapped (rw e at m) fits

module _ {file table : List ℕ} {g : Held} (m : Mapped file g table) where
  pub laying-by : laying (read_map file) ≡ laid g.bays (rails_in table g.height g.width)
  laying-by = rw (m.reads, m.bays, m.rails)

  pub listing-by : (t : Text) → listing (read_map file) t ≡ listing_in (read_scenario g.width g.height (bay_by table g) t)
  listing-by t = rw (m.reads, m.listed t)
