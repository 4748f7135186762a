-- Files byte by byte, for code and for files that come in pieces: a small state, a step and a finish. proofs/Fed shows for any
-- layout that folding the step over a file and finishing gives what reading its lines gives.
-- Assumes nothing.
use Rattle.std.specs.Prelude.{Bool, true, false, not, ℕ, suc, ◌+◌, ◌-◌, ◌*◌, eqb, ltb, leb, length, get_or, if◌then◌else◌}
use mathlib.Core.List.{List, [], ◌∷◌, ◌++◌, foldl}
use Rattle.std.proofs.Math.Option.{Option, none, some}
use Rattle.paper.specs.Basics.{◌and◌, ◌or◌, ◌>>=◌, when}
use Rattle.paper.specs.Limits.{most_carriers}
use Rattle.paper.specs.Yard.{Bay}
use Rattle.paper.specs.Text.{Text, text, LF, CR, TAB, is_digit, is_point, Read, good, bad_line}
use Rattle.paper.specs.Scenario.{Listed, version_due, carriers, start_and_goal}

-- ## Any layout

-- In line n: whether a byte of it was read; whether the last one was a CR, held back until the next byte shows whether it
-- belongs to the line's end; and U, what is known of the line under way.
pub data State (U : Type 0) : Type 0 where
  failed : ℕ → State U
  going : ℕ → Bool → Bool → U → State U

module _ {U : Type 0} (byte : U → ℕ → U) where
  -- the CR held back belongs to the line
  unfoldable pub release : Bool → U → U
  release held u = if held then byte u CR else u

module _ {A U : Type 0} (begin : A → U) where
  unfoldable pub line_closed : ℕ → Option A → State U
  line_closed n none = failed n
  line_closed n (some a) = going (suc n) false false (begin a)

module _ {A U : Type 0} (begin : A → U) (byte : U → ℕ → U) (close : U → Option A) where
  unfoldable pub feed : State U → ℕ → State U
  feed (failed n) b = failed n
  feed (going n begun held u) b =
      if eqb b LF then line_closed begin n (close u)
      else if eqb b CR then going n true true (release byte held u)
      else going n true false (byte (release byte held u) b)

-- the end of the file where no line is under way
unfoldable pub ending : {R : Type 0} → ℕ → Option R → Read R
ending n none = bad_line n
ending n (some r) = good r

module _ {A R U : Type 0} (begin : A → U) (byte : U → ℕ → U) (close : U → Option A) (rest : U → Option R) where
  unfoldable pub end_after : ℕ → Option A → Read R
  end_after n none = bad_line n
  end_after n (some a) = ending (suc n) (rest (begin a))

  unfoldable pub finish_file : State U → Read R
  finish_file (failed n) = bad_line n
  finish_file (going n begun held u) = if begun then end_after n (close (release byte held u)) else ending n (rest u)

-- ## A given text under way: how many bytes, up to one more than it has, and whether they agree so far

pub record Match : Type 0 where
  pub place : ℕ
  pub agrees : Bool

abbrev pub unmatched : Match
unmatched = record { place = 0; agrees = true }

unfoldable pub match_byte : Text → Match → ℕ → Match
match_byte w m b = record {
  place = if leb m.place (length w) then suc m.place else m.place;
  agrees = m.agrees and eqb b (get_or w m.place 0);
}

-- the first k bytes of the text, and no more
unfoldable pub matched : ℕ → Match → Bool
matched k m = m.agrees and eqb m.place k

-- ## A field under way: how many bytes, up to 129; the number so far, up to five digits; only digits; a point; only digits and
-- at most one point; a digit

pub record Field : Type 0 where
  pub place : ℕ
  pub number : ℕ
  pub digits : Bool
  pub point : Bool
  pub plain : Bool
  pub figure : Bool

abbrev pub blank : Field
blank = record { place = 0; number = 0; digits = true; point = false; plain = true; figure = false }

unfoldable pub grow : ℕ → ℕ
grow p = if ltb p 129 then suc p else p

unfoldable pub tally : ℕ → ℕ → ℕ
tally n b = if is_digit b and ltb n 10000 then n * 10 + (b - 48) else n

unfoldable pub see : Field → ℕ → Field
see m b = record {
  place = grow m.place;
  number = tally m.number b;
  digits = m.digits and is_digit b;
  point = m.point or is_point b;
  plain = m.plain and (is_digit b or is_point b and not m.point);
  figure = m.figure or is_digit b;
}

unfoldable pub field_of : Field → Text → Field
field_of m f = foldl see m f

unfoldable pub sized_field : ℕ → Field → Bool
sized_field k m = leb 1 m.place and leb m.place k

unfoldable pub number_field : Field → Bool
number_field m = sized_field 5 m and m.digits

unfoldable pub length_field : Field → Bool
length_field m = sized_field 20 m and (m.plain and m.figure)

-- ## The fields of a carrier's line that are past: how many, up to 9; whether all are well; the coordinates

pub record Past : Type 0 where
  pub index : ℕ
  pub well : Bool
  pub sx : ℕ
  pub sy : ℕ
  pub gx : ℕ
  pub gy : ℕ

abbrev pub none_past : Past
none_past = record { index = 0; well = true; sx = 0; sy = 0; gx = 0; gy = 0 }

unfoldable pub keep_at : ℕ → ℕ → ℕ → ℕ → ℕ
keep_at i j new old = if eqb i j then new else old

module _ (W H : ℕ) where
  unfoldable pub well_field : ℕ → Field → Bool
  well_field i m =
      if eqb i 1 then sized_field 128 m
      else if eqb i 8 then length_field m
      else if eqb i 2 then number_field m and eqb m.number W
      else if eqb i 3 then number_field m and eqb m.number H
      else if ltb i 8 then number_field m
      else false

  unfoldable pub field_past : Past → Field → Past
  field_past p m = record {
    index = if ltb p.index 9 then suc p.index else p.index;
    well = p.well and well_field p.index m;
    sx = keep_at p.index 4 m.number p.sx;
    sy = keep_at p.index 5 m.number p.sy;
    gx = keep_at p.index 6 m.number p.gx;
    gy = keep_at p.index 7 m.number p.gy;
  }

-- ## The scenario

-- a line under way: the version's, or a carrier's with the carriers read before it
pub data Under : Type 0 where
  in_version : Match → Under
  in_carrier : List (Bay × Bay) → Past → Field → Under

module _ (W H : ℕ) (bay : ℕ → ℕ → Option Bay) where
  -- the carrier, once its line has ended
  unfoldable pub carrier_of : Past → Option (Bay × Bay)
  carrier_of p = if eqb p.index 9 and p.well then start_and_goal W H bay p.sx p.sy p.gx p.gy else none

  unfoldable pub begin_line : Listed → Under
  begin_line version_due = in_version unmatched
  begin_line (carriers cs) = in_carrier cs none_past blank

  unfoldable pub in_line : Under → ℕ → Under
  in_line (in_version m) b = in_version (match_byte (text "version 1.0") m b)
  in_line (in_carrier cs p m) b = if eqb b TAB then in_carrier cs (field_past W H p m) blank else in_carrier cs p (see m b)

  unfoldable pub close_line : Under → Option Listed
  close_line (in_version m) = when (matched 9 m or matched 11 m) (carriers [])
  close_line (in_carrier cs p m) =
      if ltb (length cs) most_carriers then carrier_of (field_past W H p m) >>= (λ c. some (carriers (cs ++ (c ∷ [])))) else none

  unfoldable pub listed_so_far : Under → Option (List (Bay × Bay))
  listed_so_far (in_version m) = none
  listed_so_far (in_carrier cs p m) = some cs

  abbrev pub unread : State Under
  unread = going 1 false false (in_version unmatched)

  unfoldable pub scenario_step : State Under → ℕ → State Under
  scenario_step s b = feed begin_line in_line close_line s b

  unfoldable pub scenario_finish : State Under → Read (List (Bay × Bay))
  scenario_finish s = finish_file begin_line in_line close_line listed_so_far s
