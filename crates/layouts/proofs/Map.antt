-- The map file in words: which lines keep its layout, what is read of it, and which line is the first bad one.
use mathlib.Core.Path.{◌≡◌, sym, ◌∙◌, ap}
use mathlib.Core.Bool.{Bool, true}
use mathlib.Core.List.{[], ◌∷◌, ◌++◌}
use mathlib.Core.Logic.{◌↔◌, ◌⊎◌, inl, inr, ⊎_elim}
use mathlib.Core.Option.{Option, some}
use Prim.Native.Nat.{ℕ, suc, ◌<◌, ◌≤◌, ◌+◌, ◌*◌}
use lib.Dec.{eqb, ltb, leb}
use lib.ListN.{length, get_or, take, drop, take-append-drop}
use lib.Seq.{take-append_seam, drop-append_seam}
use borrow.Author.Tests.{ltb-true, lt-ltb, leb-true, le-leb, eqb-true, eq-eqb}
use Rattle.paper.specs.Basics.{◌and◌, ◌or◌, ◌>>=◌, when}
use Rattle.paper.specs.Yard.{Bay}
use Rattle.paper.specs.Text.{Text, text, lines, same, value, is_number, good, bad_line}
use Rattle.paper.specs.Map.{most_side, side_after, bay_letter, wall_letter, is_row, Grid, Due, type_due, height_due, width_due, map_due, row_due, map_line, map_end, read_map, cells, bay_at, number_at, bay_in}
use Rattle.paper.proofs.Tests.{and_left, and_right, and_both, or_left, or_right, or_cases, some-when, some-from, never-some}
use Rattle.laws.proofs.Lines.{same-exactly}
use Rattle.layouts.specs.Files.{Whole, FirstBadLine}
use Rattle.layouts.specs.Words.{Side, BayLetter, WallLetter, at, O, T, W, RowOf, KeepsMap, EndsMap, BayAt}
use Rattle.layouts.proofs.Files.{good-exactly, bad-exactly, bad-from-one}
use Rattle.layouts.proofs.Words.{all-exactly, number-exactly}

-- ## Letters and rows

pub bay-letter : (b : ℕ) → (bay_letter b ≡ true) ↔ BayLetter b
unfolding bay_letter
bay-letter b = (
  λ h. or_cases _ _ h (λ a. inl (eqb-true _ _ a)) (λ a. inr (eqb-true _ _ a)),
  λ t. ⊎_elim (λ e. or_left _ _ (eq-eqb _ _ e)) (λ e. or_right _ _ (eq-eqb _ _ e)) t,
)

pub wall-letter : (b : ℕ) → (wall_letter b ≡ true) ↔ WallLetter b
unfolding wall_letter
wall-letter b = (to, from)
  where
    to : wall_letter b ≡ true → WallLetter b
    to h =
        or_cases _ _ h
        (λ h. or_cases _ _ h
        (λ h. or_cases _ _ h (λ a. at (eqb-true _ _ a)) (λ a. O (eqb-true _ _ a)))
        (λ a. T (eqb-true _ _ a)))
        (λ a. W (eqb-true _ _ a))

    from : WallLetter b → wall_letter b ≡ true
    from (at e) = or_left _ _ (or_left _ _ (or_left _ _ (eq-eqb _ _ e)))
    from (O e) = or_left _ _ (or_left _ _ (or_right _ _ (eq-eqb _ _ e)))
    from (T e) = or_left _ _ (or_right _ _ (eq-eqb _ _ e))
    from (W e) = or_right _ _ (eq-eqb _ _ e)

letter : (b : ℕ) → (bay_letter b or wall_letter b ≡ true) ↔ (BayLetter b ⊎ WallLetter b)
letter b = (
  λ h. or_cases _ _ h (λ a. inl ((bay-letter b).0 a)) (λ a. inr ((wall-letter b).0 a)),
  λ t. ⊎_elim (λ a. or_left _ _ ((bay-letter b).1 a)) (λ a. or_right _ _ ((wall-letter b).1 a)) t,
)

pub row-exactly : (w : ℕ) (l : Text) → (is_row w l ≡ true) ↔ RowOf w l
unfolding is_row
row-exactly w l =
    let e = all-exactly (λ b. bay_letter b or wall_letter b) (λ b. BayLetter b ⊎ WallLetter b) letter l in (
      λ h. record { long = eqb-true _ _ (and_left _ _ h); letters = e.0 (and_right _ _ h) },
      λ r. and_both _ _ (eq-eqb _ _ r.long) (e.1 r.letters),
    )

-- ## The sides

pub side-exactly : (word l : Text) (n : ℕ) → (side_after word l ≡ some n) ↔ Side word l n
unfolding side_after
side-exactly word l n = (to, from)
  where
    to : side_after word l ≡ some n → Side word l n
    to h =
        let d = drop (length word) l in
        let q = some-when (same (take (length word) l) word and is_number 2 d and leb 1 (value d) and leb (value d) most_side) (value d) h in
        let a = and_left _ _ q.0 in
        let b = and_left _ _ a in
        let e : take (length word) l ≡ word = (same-exactly (take (length word) l) word).0 (and_left _ _ b) in
        let v : value d ≡ n = q.1 in
        record {
          digits = d;
          spelled = sym (take-append-drop (length word) l) ∙ ap (λ t. t ++ d) e;
          number = (number-exactly 2 d).0 (and_right _ _ b);
          worth = v;
          least = rw v at (leb-true 1 (value d) (and_right _ _ a));
          most = rw v at (leb-true (value d) most_side (and_right _ _ q.0));
        }

    from : Side word l n → side_after word l ≡ some n
    from s =
        let d = s.digits in
        let t : take (length word) l ≡ word = ap (take (length word)) s.spelled ∙ take-append_seam word d in
        let e : drop (length word) l ≡ d = ap (drop (length word)) s.spelled ∙ drop-append_seam word d in
        let v : value d ≡ n = s.worth in
        let test : same (take (length word) l) word and is_number 2 (drop (length word) l) and leb 1 (value (drop (length word) l)) and leb (value (drop (length word) l)) most_side ≡ true =
        and_both _ _
        (and_both _ _
        (and_both _ _ ((same-exactly (take (length word) l) word).1 t) (rw e ((number-exactly 2 d).1 s.number)))
        (rw (e, v) (le-leb _ _ s.least)))
        (rw (e, v) (le-leb _ _ s.most)) in
        rw test (ap some (ap value e ∙ v))

-- ## The lines

when-exactly : {A : Type 0} {P : Type 0} (b : Bool) (a : A) → (b ≡ true) ↔ P → (c : A) → (when b a ≡ some c) ↔ (P × (c ≡ a))
when-exactly b a f c = (
  λ h. let w = some-when b a h in (f.0 w.0, sym w.1),
  λ k. let e = f.1 k.0 in rw e (ap some (sym k.1)),
)

from-exactly : {A : Type 0} {P : ℕ → Type 0} (o : Option ℕ) (make : ℕ → A) → ((n : ℕ) → (o ≡ some n) ↔ P n) → (c : A)
    → ((o >>= λ n. some (make n)) ≡ some c) ↔ ((n : ℕ) × P n × (c ≡ make n))
from-exactly o make f c = (
  λ h. let w = some-from make o h in (w.0, (f w.0).0 w.1, sym w.2),
  λ k. let e = (f k.0).1 k.1 in rw e (ap some (sym k.2)),
)

pub map-line : (d : Due) (l : Text) (d' : Due) → (map_line d l ≡ some d') ↔ KeepsMap d l d'
unfolding map_line
map-line type_due l d' = when-exactly (same l (text "type octile")) height_due (same-exactly l (text "type octile")) d'
map-line height_due l d' = from-exactly (side_after (text "height ") l) width_due (side-exactly (text "height ") l) d'
map-line (width_due h) l d' = from-exactly (side_after (text "width ") l) (map_due h) (side-exactly (text "width ") l) d'
map-line (map_due h w) l d' = when-exactly (same l (text "map")) (row_due h w []) (same-exactly l (text "map")) d'
map-line (row_due h w rs) l d' =
    let r = row-exactly w l in
    let both : (ltb (length rs) h and is_row w l ≡ true) ↔ ((length rs < h) × RowOf w l) = (
      λ e. (ltb-true _ _ (and_left _ _ e), r.0 (and_right _ _ e)),
      λ k. and_both _ _ (lt-ltb _ _ k.0) (r.1 k.1),
    ) in
    let f = when-exactly (ltb (length rs) h and is_row w l) (row_due h w (rs ++ (l ∷ []))) both d' in
    (λ e. let k = f.0 e in (k.0.0, k.0.1, k.1), λ k. f.1 ((k.0, k.1), k.2))

pub map-end : (d : Due) (G : Grid) → (map_end d ≡ some G) ↔ EndsMap d G
unfolding map_end
map-end type_due G = (λ h. never-some G h, λ k. absurd k)
map-end height_due G = (λ h. never-some G h, λ k. absurd k)
map-end (width_due h) G = (λ e. never-some G e, λ k. absurd k)
map-end (map_due h w) G = (λ e. never-some G e, λ k. absurd k)
map-end (row_due h w rs) G =
    when-exactly (eqb (length rs) h) (record { height = h; width = w; rows = rs }) (λ e. eqb-true (length rs) h e, λ e. eq-eqb (length rs) h e) G

-- A map is read exactly if its lines keep the layout and none is missing.
pub map-good : (bs : Text) (G : Grid) → (read_map bs ≡ good G) ↔ Whole KeepsMap EndsMap type_due (lines bs) G
unfolding read_map
map-good bs G = good-exactly map_line map_end KeepsMap EndsMap map-line map-end 1 type_due (lines bs) G

-- 14 carries n exactly if the lines before line n keep the layout and line n breaks it or is missing.
pub map-bad : (bs : Text) (d : ℕ) → (read_map bs ≡ bad_line (suc d)) ↔ FirstBadLine KeepsMap EndsMap type_due (lines bs) d
unfolding read_map
map-bad bs d = bad-exactly map_line map_end KeepsMap EndsMap map-line map-end type_due (lines bs) d

pub map-from-one : (bs : Text) (n : ℕ) → read_map bs ≡ bad_line n → 1 ≤ n
unfolding read_map
map-from-one bs n h = bad-from-one map_line map_end KeepsMap EndsMap map-line map-end type_due (lines bs) n h

-- ## Cells

-- "x is the column, y the row, from 0 at top left": the bay there, if the cell is one
pub bay-exactly : (G : Grid) (x y : ℕ) (b : Bay) → (bay_in G x y ≡ some b) ↔ BayAt G x y b
unfolding bay_in bay_at
bay-exactly G x y b =
    let i = y * G.width + x in
    let l = bay-letter (get_or (cells G) (y * G.width + x) 64) in (
      λ h.
          let w = some-when (ltb x G.width and ltb y G.height and bay_letter (get_or (cells G) (y * G.width + x) 64)) (number_at G (y * G.width + x)) h in
          let a = and_left _ _ w.0 in
          record { column = ltb-true _ _ (and_left _ _ a); row = ltb-true _ _ (and_right _ _ a); letter = l.0 (and_right _ _ w.0); numbered = sym w.1 },
      λ r.
          let t : ltb x G.width and ltb y G.height and bay_letter (get_or (cells G) (y * G.width + x) 64) ≡ true =
          and_both _ _ (and_both _ _ (lt-ltb _ _ r.column) (lt-ltb _ _ r.row)) (l.1 r.letter) in
          rw t (ap some (sym r.numbered)),
    )
