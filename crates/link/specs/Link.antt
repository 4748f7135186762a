-- What a link's numbers stand for, and what each call answers and leaves.
-- Assumes nothing.
use Rattle.std.specs.Prelude.{Bool, true, false, ◌≡◌, ℕ, ◌-◌, eqb, leb, length, take, replicate, if◌then◌else◌, None, Some}
use mathlib.Core.List.{List, [], ◌∷◌, foldl}
use Rattle.std.proofs.lemmas.List.Edits.{sets}
use Rattle.paper.specs.Limits.{most_carriers}
use Rattle.paper.specs.Yard.{Bay}
use Rattle.paper.specs.Docket.{no_14, no_15, ended, long_piece, Verdict, granted, denied}
use Rattle.paper.specs.Text.{Text, Read, good, bad_line}
use Rattle.paper.specs.Map.{Grid, cells}
use Rattle.paper.specs.Bytes.{Field, Past, State, failed, going, Under, in_version, in_carrier, scenario_step, scenario_finish}
use Rattle.gridmap.specs.Cells.{numbering, bay_found}
use Rattle.fields.specs.ReadAs.{seen_of, past_of}
use Rattle.scenario.specs.declared.Reading.{Reading}
use Rattle.carrier_lists.specs.Counting.{count_in}
use Rattle.scenario.specs.Under.{state_of, starts_of, goals_of}
use Rattle.docket.specs.Reading.{verdict_of}
use Rattle.link.specs.declared.UnderWay.{UnderWay}
use Rattle.link.specs.declared.Link.{Link}
use Rattle.link.specs.Said.{Said}
use Rattle.link.specs.declared.Turn.{Turn}

-- ## What the numbers stand for

-- yes or no
abbrev pub yes_of : ℕ → Bool
yes_of n = if eqb n 0 then false else true

abbrev pub bit_of : Bool → ℕ
bit_of b = if b then 1 else 0

abbrev pub reading_in : UnderWay → Reading
reading_in k = record {
  failed = yes_of k.failed;
  version = yes_of k.version;
  begun = yes_of k.begun;
  held = yes_of k.held;
  count = count_in (yes_of k.version) k.count;
  start = 0;
  goal = 0;
  text = record { place = k.place; agrees = yes_of k.agrees };
  past = record { index = k.index; well = yes_of k.well; sx = k.sx; sy = k.sy; gx = k.gx; gy = k.gy };
  field = record { place = k.size; number = k.number; digits = yes_of k.digits; point = yes_of k.point; plain = yes_of k.plain; figure = yes_of k.figure };
}

-- starts and goals side by side
unfoldable pub pairs : List ℕ → List ℕ → List (Bay × Bay)
pairs [] goals = []
pairs (s ∷ starts) [] = []
pairs (s ∷ starts) (g ∷ goals) = (s, g) ∷ pairs starts goals

-- the carriers that stand in the two lists
abbrev pub carriers_in : Link → List (Bay × Bay)
carriers_in l = let k = (reading_in l.line).count in pairs (take k l.start) (take k l.goal)

abbrev pub state_in : Link → State Under
state_in l = state_of (reading_in l.line) (carriers_in l)

abbrev pub is_open : Link → Bool
is_open l = eqb l.phase 1

-- ## The numbers that a call leaves: 0 where nothing of them is read any more

-- in the version line, with the other numbers at 0
abbrev pub in_version_line : ℕ → ℕ → ℕ → ℕ → ℕ → ℕ → ℕ → UnderWay
in_version_line count f v b h place agrees = record {
  sx = 0;
  sy = 0;
  gx = 0;
  gy = 0;
  number = 0;
  count = count;
  failed = f;
  version = v;
  begun = b;
  held = h;
  place = place;
  agrees = agrees;
  index = 0;
  well = 0;
  spare = 0;
  size = 0;
  digits = 0;
  point = 0;
  plain = 0;
  figure = 0;
}

-- in a carrier's line, with the fields past and the field under way, whose yes and no are numbers of their own
abbrev pub in_carrier_line : ℕ → ℕ → ℕ → ℕ → ℕ → Past → ℕ → Field → ℕ → ℕ → ℕ → ℕ → UnderWay
in_carrier_line count f v b h p well m digits point plain figure = record {
  sx = p.sx;
  sy = p.sy;
  gx = p.gx;
  gy = p.gy;
  number = m.number;
  count = count;
  failed = f;
  version = v;
  begun = b;
  held = h;
  place = 0;
  agrees = 0;
  index = p.index;
  well = well;
  spare = 0;
  size = m.place;
  digits = digits;
  point = point;
  plain = plain;
  figure = figure;
}

-- the layout is broken
abbrev pub in_broken : ℕ → ℕ → ℕ → UnderWay
in_broken count f v = in_version_line count f v 0 0 0 0

abbrev pub under_way_of : Reading → UnderWay
under_way_of r =
    if r.failed then in_broken r.count 1 (bit_of r.version)
    else if r.version then in_version_line r.count 0 1 (bit_of r.begun) (bit_of r.held) r.text.place (bit_of r.text.agrees)
    else in_carrier_line r.count 0 0 (bit_of r.begun) (bit_of r.held) (past_of r.past) (bit_of r.past.well) (seen_of r.field)
    (bit_of r.field.digits) (bit_of r.field.point) (bit_of r.field.plain) (bit_of r.field.figure)

-- the same, of the paper's state
abbrev pub under_way_by : State Under → UnderWay
under_way_by (failed n) = in_broken (n - 2) 1 (bit_of (eqb n 1))
under_way_by (going n begun held (in_version m)) = in_version_line 0 0 1 (bit_of begun) (bit_of held) m.place (bit_of m.agrees)
under_way_by (going n begun held (in_carrier cs p m)) =
    in_carrier_line (length cs) 0 0 (bit_of begun) (bit_of held) p (bit_of p.well) m (bit_of m.digits) (bit_of m.point) (bit_of m.plain) (bit_of m.figure)

-- the carriers of a state whose layout is not broken
abbrev pub carriers_by : State Under → List (Bay × Bay)
carriers_by (failed n) = []
carriers_by (going n begun held (in_version m)) = []
carriers_by (going n begun held (in_carrier cs p m)) = cs

-- ## The calls

-- more is due, or a verdict
pub data Saying : Type 0 where
  more : Saying
  told : Verdict → Saying

abbrev pub saying_of : Said → Saying
saying_of None = more
saying_of (Some v) = told (verdict_of v)

-- begin
abbrev pub begun_link : Grid → Link
begun_link G = record {
  start = replicate most_carriers 0;
  goal = replicate most_carriers 0;
  cells = sets (replicate 4096 0) 0 (numbering 0 (cells G));
  line = under_way_by (going 1 false false (in_version (record { place = 0; agrees = true })));
  phase = 1;
  height = G.height;
  width = G.width;
}

abbrev pub begin_saying : Read Grid → Saying
begin_saying (good G) = told (granted 0)
begin_saying (bad_line l) = told (denied (no_14 l))

abbrev pub begin_link : Read Grid → Link → Link
begin_link (good G) l = begun_link G
begin_link (bad_line n) l = l

pub record BeginSays (map : Read Grid) (l : Link) (r : Turn) : Type 0 where
  pub answers : saying_of r.said ≡ begin_saying map
  pub leaves : r.link ≡ begin_link map l

-- a piece
abbrev pub step_in : Link → State Under → ℕ → State Under
step_in l = scenario_step l.width l.height (bay_found l.cells l.height l.width)

abbrev pub link_by : Link → State Under → Link
link_by l s = record {
  start = sets l.start 0 (starts_of (carriers_by s));
  goal = sets l.goal 0 (goals_of (carriers_by s));
  cells = l.cells;
  line = under_way_by s;
  phase = l.phase;
  height = l.height;
  width = l.width;
}

-- what the bytes leave, and what that stands for
pub record FedSays (l : Link) (bytes : Text) (r : Link) : Type 0 where
  pub leaves : r ≡ link_by l (foldl (step_in l) (state_in l) bytes)
  pub means : state_in r ≡ foldl (step_in l) (state_in l) bytes

-- the bytes of the longest piece
abbrev pub piece_bytes : ℕ
piece_bytes = 256

-- "Refusals, in order: 17, ended; 18, piece over 256 bytes."
abbrev pub piece_saying : Bool → Bool → Saying
piece_saying false short = told (denied ended)
piece_saying true false = told (denied long_piece)
piece_saying true true = more

abbrev pub piece_link : Bool → Bool → Link → Text → Link
piece_link false short l bytes = l
piece_link true false l bytes = l
piece_link true true l bytes = link_by l (foldl (step_in l) (state_in l) bytes)

pub record PieceLeaves (l : Link) (bytes : Text) (r : Link) : Type 0 where
  pub leaves : r ≡ piece_link (is_open l) (leb (length bytes) piece_bytes) l bytes
  pub means : is_open l ≡ true → leb (length bytes) piece_bytes ≡ true → state_in r ≡ foldl (step_in l) (state_in l) bytes

pub record PieceSays (l : Link) (bytes : Text) (r : Turn) : Type 0 where
  pub answers : saying_of r.said ≡ piece_saying (is_open l) (leb (length bytes) piece_bytes)
  pub after : PieceLeaves l bytes r.link

-- the end
abbrev pub finish_in : Link → Read (List (Bay × Bay))
finish_in l = scenario_finish l.width l.height (bay_found l.cells l.height l.width) (state_in l)

abbrev pub verdict_by : Read (List (Bay × Bay)) → Verdict
verdict_by (good cs) = granted (length cs)
verdict_by (bad_line n) = denied (no_15 n)

abbrev pub carriers_read : Read (List (Bay × Bay)) → List (Bay × Bay)
carriers_read (good cs) = cs
carriers_read (bad_line n) = []

abbrev pub over_link : Link → Read (List (Bay × Bay)) → Link
over_link l r = record {
  start = sets l.start 0 (starts_of (carriers_read r));
  goal = sets l.goal 0 (goals_of (carriers_read r));
  cells = l.cells;
  line = l.line;
  phase = 2;
  height = l.height;
  width = l.width;
}

-- the carriers stand first in the two lists
pub record Holds (l : Link) (cs : List (Bay × Bay)) : Type 0 where
  pub starts : take (length cs) l.start ≡ starts_of cs
  pub goals : take (length cs) l.goal ≡ goals_of cs

pub record OverSays (l : Link) (r : Turn) : Type 0 where
  pub answers : saying_of r.said ≡ told (verdict_by (finish_in l))
  pub leaves : r.link ≡ over_link l (finish_in l)
  pub holds : Holds r.link (carriers_read (finish_in l))

abbrev pub end_saying : Bool → Read (List (Bay × Bay)) → Saying
end_saying false r = told (denied ended)
end_saying true r = told (verdict_by r)

abbrev pub end_link : Bool → Link → Link
end_link false l = l
end_link true l = over_link l (finish_in l)

pub record EndLeaves (l r : Link) : Type 0 where
  pub leaves : r ≡ end_link (is_open l) l
  pub holds : is_open l ≡ true → Holds r (carriers_read (finish_in l))

pub record EndSays (l : Link) (r : Turn) : Type 0 where
  pub answers : saying_of r.said ≡ end_saying (is_open l) (finish_in l)
  pub after : EndLeaves l r.link
