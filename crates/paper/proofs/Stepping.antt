-- The scenario read byte by byte is the scenario read line by line, in whatever pieces the bytes come.
use Rattle.std.specs.Prelude.{if◌then◌else◌}
use mathlib.Core.Path.{◌≡◌, refl, sym, ◌∙◌, ap, ap₂}
use mathlib.Core.Bool.{Bool, true, false}
use mathlib.Core.List.{List, [], ◌∷◌, ◌++◌, foldl}
use mathlib.Core.Option.{Option, none, some}
use Prim.Native.Nat.{ℕ}
use native.Mathlib.Omega.{arith}
use lib.Dec.{eqb, ltb}
use lib.ListN.{length}
use borrow.Author.Tests.{ne_eqb}
use Rattle.paper.specs.Basics.{◌and◌, ◌>>=◌, when, ◌or◌}
use Rattle.paper.specs.Limits.{most_carriers}
use Rattle.paper.specs.Yard.{Bay}
use Rattle.paper.specs.Text.{Text, TAB, join, split, value, sized, is_number, text}
use Rattle.paper.specs.Scenario.{Listed, version_due, carriers, is_length, nine_fields, start_and_goal, carrier_line, scenario_line, scenario_end, read_scenario}
use Rattle.paper.specs.Bytes.{Match, unmatched, match_byte, Field, blank, see, field_of, Past, none_past, keep_at, in_version, in_carrier, well_field, field_past, carrier_of, begin_line, in_line, close_line, listed_so_far, unread, scenario_step, scenario_finish}
use Rattle.paper.proofs.Tests.{by_cases, and_left, and_right}
use Rattle.paper.proofs.Fed.{ByByte, Some, join-some, fed}
use Rattle.paper.proofs.Fields.{match_is, sized-mark, number-mark, value-mark, equal-mark, length-mark, and-false}

-- there is always a field
pub split-some : (t : ℕ) (l : Text) → Some (split t l)
unfolding split
split-some t [] = ([], [], refl)
split-some t (b ∷ l) = by_cases (eqb b t) (λ e. rw e ([], split t l, refl)) (λ e. rw e (join-some b (split t l)))

module _ (W H : ℕ) (bay : ℕ → ℕ → Option Bay) where
  -- ## The version
  version-on : (m : Match) (l : Text) → foldl (in_line W H bay) (in_version m) l ≡ in_version (foldl (match_byte (text "version 1.0")) m l)
  unfolding in_line
  version-on m [] = refl
  version-on m (b ∷ l) = version-on (match_byte (text "version 1.0") m b) l

  version-closed : (l : Text) → close_line W H bay (foldl (in_line W H bay) (begin_line W H bay version_due) l) ≡ scenario_line W H bay version_due l
  unfolding begin_line close_line scenario_line
  version-closed l =
      ap (close_line W H bay) (version-on unmatched l)
      ∙ ap (λ q. when q (carriers [])) (ap₂ ◌or◌ (match_is (text "version 1.0") 9 (omega arith) l) (match_is (text "version 1.0") 11 (omega arith) l))

  -- ## Fields
  -- those after the first
  abbrev later : Past → List Text → Past
  later p [] = p
  later p (f ∷ fs) = later (field_past W H p (field_of blank f)) fs

  -- the first goes on from what was seen of it
  abbrev fields_on : Past → Field → List Text → Past
  fields_on p m [] = p
  fields_on p m (f ∷ fs) = later (field_past W H p (field_of m f)) fs

  abbrev closing : List (Bay × Bay) → Past → Option Listed
  closing cs p = if ltb (length cs) most_carriers then carrier_of W H bay p >>= (λ c. some (carriers (cs ++ (c ∷ [])))) else none

  whole : (p : Past) (ls : List Text) → Some ls → fields_on p blank ls ≡ later p ls
  whole p ls t = rw t.2

  first : (p : Past) (m : Field) (b : ℕ) (ls : List Text) → Some ls → fields_on p m (join b ls) ≡ fields_on p (see m b) ls
  unfolding join field_of
  first p m b ls t = rw t.2

  fields-on : (cs : List (Bay × Bay)) (p : Past) (m : Field) (l : Text) → close_line W H bay (foldl (in_line W H bay) (in_carrier cs p m) l) ≡ closing cs (fields_on p m (split TAB l))
  unfolding in_line close_line split field_of join
  fields-on cs p m [] = refl
  fields-on cs p m (b ∷ l) =
      let t = split-some TAB l in
      by_cases (eqb b TAB)
      (λ e. rw e (fields-on cs (field_past W H p m) blank l ∙ ap (closing cs) (whole (field_past W H p m) (split TAB l) t)))
      (λ e. rw e (fields-on cs p (see m b) l ∙ ap (closing cs) (sym (first p m b (split TAB l) t))))

  -- ## Nine fields
  -- once a field is bad, the line is
  spoilt : (p : Past) (fs : List Text) → p.well ≡ false → carrier_of W H bay (later p fs) ≡ none
  unfolding carrier_of field_past ◌and◌
  spoilt p [] e = rw (e, and-false (eqb p.index 9))
  spoilt p (f ∷ fs) e = spoilt (field_past W H p (field_of blank f)) fs (rw e)

  module _ (a b c d e f g h i : Text) where
    abbrev nine : List Text
    nine = a ∷ b ∷ c ∷ d ∷ e ∷ f ∷ g ∷ h ∷ i ∷ []

    abbrev four : Bool
    four = is_number 5 a and sized 128 b and (is_number 5 c and eqb (value c) W) and (is_number 5 d and eqb (value d) H)

    abbrev five : Bool
    five = four and is_number 5 e

    abbrev six : Bool
    six = five and is_number 5 f

    abbrev seven : Bool
    seven = six and is_number 5 g

    well-is : (later none_past nine).well ≡ nine_fields W H bay nine
    unfolding field_past well_field ◌and◌ nine_fields
    well-is =
        rw (number-mark a, sized-mark 128 b (omega arith), equal-mark c W, equal-mark d H, number-mark e, number-mark f, number-mark g, number-mark h, length-mark i)

    coordinates : nine_fields W H bay nine ≡ true
        → start_and_goal W H bay (field_of blank e).number (field_of blank f).number (field_of blank g).number (field_of blank h).number
        ≡ start_and_goal W H bay (value e) (value f) (value g) (value h)
    unfolding nine_fields ◌and◌
    coordinates t =
        let t8 = and_left (seven and is_number 5 h) (is_length i) t in
        let t7 = and_left seven (is_number 5 h) t8 in
        let t6 = and_left six (is_number 5 g) t7 in
        let t5 = and_left five (is_number 5 f) t6 in
        rw (value-mark e (and_right four (is_number 5 e) t5), value-mark f (and_right five (is_number 5 f) t6), value-mark g (and_right six (is_number 5 g) t7), value-mark h (and_right seven (is_number 5 h) t8))

    nine-is : carrier_of W H bay (later none_past nine) ≡ carrier_line W H bay nine
    unfolding carrier_of carrier_line field_past keep_at ◌and◌
    nine-is =
        by_cases (nine_fields W H bay nine) (λ t. rw (well-is, t) (coordinates t)) (λ t. rw (well-is, t))

  carrier-is : (fs : List Text) → carrier_of W H bay (later none_past fs) ≡ carrier_line W H bay fs
  unfolding carrier_of carrier_line field_past nine_fields well_field ◌and◌
  carrier-is [] = refl
  carrier-is (a ∷ []) = refl
  carrier-is (a ∷ b ∷ []) = refl
  carrier-is (a ∷ b ∷ c ∷ []) = refl
  carrier-is (a ∷ b ∷ c ∷ d ∷ []) = refl
  carrier-is (a ∷ b ∷ c ∷ d ∷ e ∷ []) = refl
  carrier-is (a ∷ b ∷ c ∷ d ∷ e ∷ f ∷ []) = refl
  carrier-is (a ∷ b ∷ c ∷ d ∷ e ∷ f ∷ g ∷ []) = refl
  carrier-is (a ∷ b ∷ c ∷ d ∷ e ∷ f ∷ g ∷ h ∷ []) = refl
  carrier-is (a ∷ b ∷ c ∷ d ∷ e ∷ f ∷ g ∷ h ∷ i ∷ []) = nine-is a b c d e f g h i
  carrier-is (a ∷ b ∷ c ∷ d ∷ e ∷ f ∷ g ∷ h ∷ i ∷ j ∷ fs) =
      let q : eqb (length (a ∷ b ∷ c ∷ d ∷ e ∷ f ∷ g ∷ h ∷ i ∷ j ∷ fs)) 9 ≡ false = ne_eqb (length (a ∷ b ∷ c ∷ d ∷ e ∷ f ∷ g ∷ h ∷ i ∷ j ∷ fs)) 9 (omega arith) in
      rw q (spoilt (later none_past (a ∷ b ∷ c ∷ d ∷ e ∷ f ∷ g ∷ h ∷ i ∷ j ∷ [])) fs (and-false (later none_past (a ∷ b ∷ c ∷ d ∷ e ∷ f ∷ g ∷ h ∷ i ∷ [])).well))

  -- ## The law
  by_byte : ByByte (scenario_line W H bay) (scenario_end W H bay) (begin_line W H bay) (in_line W H bay) (close_line W H bay) (listed_so_far W H bay)
  unfolding begin_line listed_so_far scenario_end scenario_line
  by_byte = record { closed = closed; rests = rests }
    where
      closed : (a : Listed) (l : Text) → close_line W H bay (foldl (in_line W H bay) (begin_line W H bay a) l) ≡ scenario_line W H bay a l
      closed version_due l = version-closed l
      closed (carriers cs) l =
          fields-on cs none_past blank l
          ∙ ap (closing cs) (whole none_past (split TAB l) (split-some TAB l))
          ∙ ap (λ o. if ltb (length cs) most_carriers then o >>= (λ c. some (carriers (cs ++ (c ∷ [])))) else none) (carrier-is (split TAB l))

      rests : (a : Listed) → listed_so_far W H bay (begin_line W H bay a) ≡ scenario_end W H bay a
      rests version_due = refl
      rests (carriers cs) = refl

  -- Folding the step over the file and finishing gives the layout's answer, for every file.
  pub stepped : (bs : Text) → scenario_finish W H bay (foldl (scenario_step W H bay) (unread W H bay) bs) ≡ read_scenario W H bay bs
  unfolding scenario_finish scenario_step read_scenario begin_line
  stepped bs = fed _ _ _ _ _ _ by_byte 1 version_due bs
