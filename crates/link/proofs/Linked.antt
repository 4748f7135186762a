-- However a scenario is cut into pieces, its end answers what the whole file does: of every run of the calls, from what they promise alone.
-- It holds since a link stands for the state of all bytes so far, and that state is a fold.
-- Assumes nothing.
use mathlib.Core.Path.{◌≡◌, refl, sym, ◌∙◌, ap}
use mathlib.Core.Bool.{true}
use mathlib.Core.List.{List, [], ◌∷◌, ◌++◌, append_assoc, append-nil, foldl, foldl-append}
use mathlib.Core.Option.{Option}
use Prim.Native.Nat.{ℕ, ◌*◌, ◌≤◌}
use native.Mathlib.Omega.{arith}
use native.Mathlib.Nat.{mul-le-mul}
use lib.Dec.{leb}
use lib.ListN.{length, replicate, length-replicate}
use lib.Seq.{sets}
use borrow.Author.Tests.{le-leb}
use Rattle.paper.specs.Basics.{concat}
use Rattle.paper.specs.Yard.{Bay}
use Rattle.paper.specs.Text.{Text, Read, good, bad_line}
use Rattle.paper.specs.Map.{Grid, read_map, cells, bay_in}
use Rattle.paper.specs.Scenario.{read_scenario}
use Rattle.paper.specs.Bytes.{State, Under, scenario_step, scenario_finish, unread}
use Rattle.paper.specs.Docket.{bad_map, Verdict, granted, denied}
use Rattle.paper.proofs.Stepping.{stepped}
use Rattle.paper.proofs.Tests.{never, by_read}
use Rattle.gridmap.specs.Cells.{numbering, bay_found}
use Rattle.gridmap.proofs.Good.{map-sized}
use Rattle.scenario.proofs.OfMap.{reads-of-map}
use Rattle.listing.specs.Reading.{Listing, listed, unlisted, listing, listing_in}
use Rattle.link.specs.declared.Link.{Link}
use Rattle.link.specs.declared.Turn.{Turn}
use Rattle.link.specs.Link.{piece_bytes, state_in, is_open, step_in, link_by, finish_in, verdict_by, carriers_read, Saying, told, saying_of, begin_link, begun_link, end_saying, Holds, BeginSays, PieceLeaves, EndLeaves, EndSays}

-- a run of pieces, each at most 256 bytes: each call has the link that the last one left
pub data Run : Link → List Text → Link → Type 0 where
  none : {l : Link} → Run l [] l
  fed : {l l' end : Link} {p : Text} {ps : List Text} → length p ≤ piece_bytes → PieceLeaves l p l' → Run l' ps end → Run l (p ∷ ps) end

module _ (G : Grid) where
  abbrev table : List ℕ
  table = sets (replicate 4096 0) 0 (numbering 0 (cells G))

  abbrev bay : ℕ → ℕ → Option Bay
  bay = bay_found table G.height G.width

  abbrev step : State Under → ℕ → State Under
  step = scenario_step G.width G.height bay

  -- what a link stands for after these bytes
  record Stands (bs : Text) (l : Link) : Type 0 where
    opened : is_open l ≡ true
    high : l.height ≡ G.height
    wide : l.width ≡ G.width
    numbers : l.cells ≡ table
    state : state_in l ≡ foldl step (unread G.width G.height bay) bs

  stands-first : (l₀ : Link) → l₀ ≡ begun_link G → Stands [] l₀
  stands-first l₀ e = rw e (record { opened = refl; high = refl; wide = refl; numbers = refl; state = refl })

  stands-next : {bs p : Text} {l l' : Link} → Stands bs l → length p ≤ piece_bytes → PieceLeaves l p l' → Stands (bs ++ p) l'
  stands-next {bs} {p} {l} {l'} w h s =
      let o = w.opened in
      let short : leb (length p) piece_bytes ≡ true = le-leb (length p) piece_bytes h in
      let e : l' ≡ link_by l (foldl (step_in l) (state_in l) p) = rw (o, short) at s.leaves in
      record {
        opened = ap is_open e ∙ o;
        high = ap (λ x. x.height) e ∙ w.high;
        wide = ap (λ x. x.width) e ∙ w.wide;
        numbers = ap (λ x. x.cells) e ∙ w.numbers;
        state = s.means o short
            ∙ (λ i. foldl (scenario_step (w.wide i) (w.high i) (bay_found (w.numbers i) (w.high i) (w.wide i))) (w.state i) p)
            ∙ sym (foldl-append step (unread G.width G.height bay) bs p);
      }

  stands-run : {bs : Text} {ps : List Text} {l end : Link} → Stands bs l → Run l ps end → Stands (bs ++ concat ps) end
  unfolding concat
  stands-run {bs} w none = rw (append-nil bs) w
  stands-run {bs} w (fed {p = p} {ps = ps} h s more) = rw (← append_assoc bs p (concat ps)) (stands-run (stands-next w h s) more)

  -- the end of it is the whole file's
  stands-end : (map : Text) → read_map map ≡ good G → {bs : Text} {l : Link} → Stands bs l → finish_in l ≡ read_scenario G.width G.height (bay_in G) bs
  stands-end map e {bs} {l} w =
      let s = map-sized map G e in
      let k : G.height * G.width ≤ 64 * 64 = mul-le-mul s.high s.wide in
      let room : length (cells G) ≤ length {A = ℕ} (replicate 4096 0) = omega (arith, s.full, length-replicate {A = ℕ} 4096 0) in
      (λ i. scenario_finish (w.wide i) (w.high i) (bay_found (w.numbers i) (w.high i) (w.wide i)) (w.state i))
      ∙ stepped G.width G.height bay bs
      ∙ reads-of-map G s (replicate 4096 0) room bs

-- the whole reading's answer, where there is room for every carrier
abbrev pub whole_verdict : Listing → Verdict
whole_verdict (listed cs) = granted (length cs)
whole_verdict (unlisted r) = denied r

abbrev pub carriers_listed : Listing → List (Bay × Bay)
carriers_listed (listed cs) = cs
carriers_listed (unlisted r) = []

by-verdict : (R : Read (List (Bay × Bay))) → verdict_by R ≡ whole_verdict (listing_in R)
by-verdict (good cs) = refl
by-verdict (bad_line n) = refl

by-carriers : (R : Read (List (Bay × Bay))) → carriers_read R ≡ carriers_listed (listing_in R)
by-carriers (good cs) = refl
by-carriers (bad_line n) = refl

-- what the end of a scenario in pieces answers, and what stands in the link then
pub record Whole (map : Text) (ps : List Text) (answer : Saying) (end : Link) : Type 0 where
  pub answers : answer ≡ told (whole_verdict (listing (read_map map) (concat ps)))
  pub holds : Holds end (carriers_listed (listing (read_map map) (concat ps)))

-- For every map and every list of pieces.
pub pieces_whole : (map : Text) (G : Grid) → read_map map ≡ good G → (l l₀ : Link) → l₀ ≡ begin_link (read_map map) l
    → (ps : List Text) (last : Link) → Run l₀ ps last
    → (answer : Saying) (end : Link) → answer ≡ end_saying (is_open last) (finish_in last) → EndLeaves last end → Whole map ps answer end
pieces_whole map G e l l₀ b ps last run answer end a s =
    let first : l₀ ≡ begun_link G = rw e at b in
    let w = stands-run G (stands-first G l₀ first) run in
    let f : finish_in last ≡ read_scenario G.width G.height (bay_in G) (concat ps) = stands-end G map e w in
    let q : answer ≡ told (verdict_by (finish_in last)) = rw w.opened at a in
    let z : listing (read_map map) (concat ps) ≡ listing_in (read_scenario G.width G.height (bay_in G) (concat ps)) = rw e in
    record {
      answers = q ∙ ap told (ap verdict_by f ∙ by-verdict (read_scenario G.width G.height (bay_in G) (concat ps)) ∙ ap whole_verdict (sym z));
      holds = rw (z, ← by-carriers (read_scenario G.width G.height (bay_in G) (concat ps)), ← f) (s.holds w.opened);
    }

-- The same of the functions by value.
pub pieces-of-calls : (map : Text) (l : Link) (begun : Turn) → BeginSays (read_map map) l begun → saying_of begun.said ≡ told (granted 0)
    → (ps : List Text) (last : Link) → Run begun.link ps last → (over : Turn) → EndSays last over → Whole map ps (saying_of over.said) over.link
pieces-of-calls map l begun b g ps last run over s =
    by_read (read_map map)
    (λ G e. pieces_whole map G e l begun.link b.leaves ps last run (saying_of over.said) over.link s.answers s.after)
    (λ n e. let y : told (granted 0) ≡ told (denied (bad_map n)) = sym g ∙ (rw e at b.answers) in never (cc))
