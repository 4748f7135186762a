-- The letters of a good map's file are its cells: no line before the rows has a letter, and rows have nothing else.
use Rattle.std.proofs.Common.{Ok}
use mathlib.Core.Path.{◌≡◌, refl, sym, ◌∙◌, ap}
use mathlib.Core.Bool.{true, false}
use mathlib.Core.List.{List, [], ◌∷◌, ◌++◌, append-nil, append_assoc}
use mathlib.Core.Option.{some}
use Prim.Native.Nat.{ℕ, suc, ◌+◌, ◌*◌, ◌≤◌}
use native.Mathlib.Omega.{arith}
use native.Mathlib.Nat.{mul-le-mul, add-mul}
use lib.Dec.{eqb, ltb, leb}
use lib.ListN.{length, take, drop, length-append, take-append-drop}
use lib.Seq.{sets}
use borrow.Author.Tests.{eqb-true, leb-true, ne_eqb}
use Rattle.paper.specs.Basics.{◌and◌, ◌or◌, filter, concat}
use Rattle.paper.specs.Text.{Text, text, LF, CR, join, begins_with_lf, lines, same, all, count, is_digit, value, sized, is_number, Read, good, bad_line, read_lines}
use Rattle.paper.specs.Map.{Grid, Due, type_due, height_due, width_due, map_due, row_due, bay_letter, wall_letter, side_after, is_row, map_line, map_end, read_map, cells, bay_count}
use Rattle.paper.proofs.Tests.{by_cases, by-option, and_left, and_right, never, some-when, some-from, some_same, or-neither, by_read}
use Rattle.paper.proofs.Members.{filter-append}
use Rattle.laws.proofs.Lines.{same-exactly}
use Rattle.sides.specs.Letters.{letter}
use Rattle.sides.specs.Layout.{sides_read}
use Rattle.stores.specs.Writing.{Wrote}
use Rattle.gridmap.specs.Cells.{letters, numbering, Reads}
use Rattle.gridmap.proofs.RailEnds.{concat-append, concat-one}

-- ## Line ends have no letters
filter-skip : (b : ℕ) (l : Text) → letter b ≡ false → letters (b ∷ l) ≡ letters l
unfolding filter
filter-skip b l e = rw e

filter-on : (b : ℕ) (l m : Text) → letters l ≡ letters m → letters (b ∷ l) ≡ letters (b ∷ m)
unfolding filter
filter-on b l m e = rw e

concat-join : (b : ℕ) (ls : List Text) → concat (join b ls) ≡ b ∷ concat ls
unfolding concat join
concat-join b [] = refl
concat-join b (l ∷ ls) = refl

no-letter : (b c : ℕ) → letter c ≡ false → eqb b c ≡ true → letter b ≡ false
no-letter b c e f = rw (eqb-true b c f) e

LF-none : letter LF ≡ false
unfolding bay_letter wall_letter ◌or◌
LF-none = refl

CR-none : letter CR ≡ false
unfolding bay_letter wall_letter ◌or◌
CR-none = refl

concat-none : ◌≡◌ {A = Text} (concat []) []
unfolding concat
concat-none = refl

concat-cons : (l : Text) (ls : List Text) → concat (l ∷ ls) ≡ l ++ concat ls
unfolding concat
concat-cons l ls = refl

letters-join : (b : ℕ) (bs : Text) → letters bs ≡ letters (concat (lines bs)) → letters (b ∷ bs) ≡ letters (concat (join b (lines bs)))
letters-join b bs ih = filter-on b bs (concat (lines bs)) ih ∙ ap letters (sym (concat-join b (lines bs)))

letters-LF : (b : ℕ) (bs : Text) → eqb b LF ≡ true → letters bs ≡ letters (concat (lines bs)) → letters (b ∷ bs) ≡ letters (concat ([] ∷ lines bs))
letters-LF b bs e ih = filter-skip b bs (no-letter b LF LF-none e) ∙ ih ∙ ap letters (sym (concat-cons [] (lines bs)))

letters-CR : (b : ℕ) (bs : Text) → eqb b CR ≡ true → letters bs ≡ letters (concat (lines bs)) → letters (b ∷ bs) ≡ letters (concat (lines bs))
letters-CR b bs e ih = filter-skip b bs (no-letter b CR CR-none e) ∙ ih

pub letters-lines : (bs : Text) → letters bs ≡ letters (concat (lines bs))
unfolding lines
letters-lines [] = ap letters (sym concat-none)
letters-lines (b ∷ bs) =
    let ih = letters-lines bs in
    by_cases (eqb b LF) (λ e. rw e (letters-LF b bs e ih))
    (λ e. by_cases (eqb b CR and begins_with_lf bs)
    (λ f. rw (e, f) (letters-CR b bs (and_left (eqb b CR) (begins_with_lf bs) f) ih))
    (λ f. rw (e, f) (letters-join b bs ih)))

-- ## What a line adds
digit-none : (b : ℕ) → is_digit b ≡ true → letter b ≡ false
unfolding is_digit bay_letter wall_letter
digit-none b h =
    let i : 48 ≤ b = leb-true 48 b (and_left (leb 48 b) (leb b 57) h) in
    let j : b ≤ 57 = leb-true b 57 (and_right (leb 48 b) (leb b 57) h) in
    or-neither _ _ (or-neither _ _ (ne_eqb b 46 (omega arith)) (ne_eqb b 71 (omega arith)))
    (or-neither _ _ (or-neither _ _ (or-neither _ _ (ne_eqb b 64 (omega arith)) (ne_eqb b 79 (omega arith))) (ne_eqb b 84 (omega arith))) (ne_eqb b 87 (omega arith)))

digits-none : (l : Text) → all is_digit l ≡ true → letters l ≡ []
unfolding all filter
digits-none [] h = refl
digits-none (b ∷ l) h =
    rw (digit-none b (and_left (is_digit b) (all is_digit l) h)) (digits-none l (and_right (is_digit b) (all is_digit l) h))

row-all : (l : Text) → all letter l ≡ true → letters l ≡ l
unfolding all filter
row-all [] h = refl
row-all (b ∷ l) h =
    rw (and_left (letter b) (all letter l) h) (ap (λ m. b ∷ m) (row-all l (and_right (letter b) (all letter l) h)))

-- what a side's line says
pub record Sided (w l : Text) (n : ℕ) : Type 0 where
  pub none_in : letters w ≡ [] → letters l ≡ []
  pub short : length l ≤ length w + 2
  pub most : n ≤ 64

pub sided : (w l : Text) (n : ℕ) → side_after w l ≡ some n → Sided w l n
unfolding side_after is_number sized
sided w l n e =
    let rest = drop (length w) l in
    let q = some-when (same (take (length w) l) w and is_number 2 rest and leb 1 (value rest) and leb (value rest) 64) (value rest) e in
    let b = and_left _ _ (and_left _ _ q.0) in
    let begins : take (length w) l ≡ w = (same-exactly (take (length w) l) w).0 (and_left _ _ b) in
    let number = and_right _ _ b in
    let few : length rest ≤ 2 = leb-true _ _ (and_right _ _ (and_left _ _ number)) in
    let whole : length (take (length w) l) + length rest ≡ length l = sym (length-append (take (length w) l) rest) ∙ ap length (take-append-drop (length w) l) in
    let most : value rest ≤ 64 = leb-true _ _ (and_right _ _ q.0) in
    record {
      none_in = λ z.
          ap letters (sym (take-append-drop (length w) l))
          ∙ filter-append letter (take (length w) l) rest
          ∙ ap (λ m. m ++ letters rest) (ap letters begins ∙ z)
          ∙ digits-none rest (and_right _ _ number);
      short = omega (arith, ap length begins);
      most = omega (arith, q.1);
    }

abbrev rows_of : Due → List Text
rows_of type_due = []
rows_of height_due = []
rows_of (width_due h) = []
rows_of (map_due h w) = []
rows_of (row_due h w rs) = rs

abbrev Fit : Due → Type 0
Fit type_due = Unit {0}
Fit height_due = Unit {0}
Fit (width_due h) = h ≤ 64
Fit (map_due h w) = (h ≤ 64) × (w ≤ 64)
Fit (row_due h w rs) = (h ≤ 64) × ((w ≤ 64) × (length (concat rs) ≡ length rs * w))

record Adds (d d' : Due) (l : Text) : Type 0 where
  rows : concat (rows_of d') ≡ concat (rows_of d) ++ letters l
  fit : Fit d → Fit d'

type-none : letters (text "type octile") ≡ []
unfolding filter bay_letter wall_letter ◌or◌
type-none = refl

map-none : letters (text "map") ≡ []
unfolding filter bay_letter wall_letter ◌or◌
map-none = refl

height-none : letters (text "height ") ≡ []
unfolding filter bay_letter wall_letter ◌or◌
height-none = refl

width-none : letters (text "width ") ≡ []
unfolding filter bay_letter wall_letter ◌or◌
width-none = refl

-- a line before the rows adds none
adds_none : (d d' : Due) (l : Text) → concat (rows_of d) ≡ [] → concat (rows_of d') ≡ [] → letters l ≡ [] → (Fit d → Fit d') → Adds d d' l
adds_none d d' l e f g h = record { rows = f ∙ sym (rw (e, g)); fit = h }

adds-row : (h w : ℕ) (rs : List Text) (l : Text) → is_row w l ≡ true → Adds (row_due h w rs) (row_due h w (rs ++ (l ∷ []))) l
unfolding is_row
adds-row h w rs l t =
    let a : all letter l ≡ true = and_right (eqb (length l) w) (all letter l) t in
    let n : length l ≡ w = eqb-true (length l) w (and_left (eqb (length l) w) (all letter l) t) in
    let e : concat (rs ++ (l ∷ [])) ≡ concat rs ++ l = concat-append rs (l ∷ []) ∙ ap (λ m. concat rs ++ m) (concat-one l) in
    record {
      rows = e ∙ ap (λ m. concat rs ++ m) (sym (row-all l a));
      fit = λ f. (
        f.0,
        (
          f.1.0,
          ap length e ∙ length-append (concat rs) l ∙ rw (f.1.1, n, length-append rs (l ∷ [])) (sym (add-mul (length rs) 1 w ∙ ap (λ k. length rs * w + k) (omega arith))),
        ),
      );
    }

adds : (d : Due) (l : Text) (d' : Due) → map_line d l ≡ some d' → Adds d d' l
unfolding map_line
adds type_due l d' e =
    let q = some-when (same l (text "type octile")) height_due e in
    rw (← q.1) (adds_none type_due height_due l concat-none concat-none (ap letters ((same-exactly l (text "type octile")).0 q.0) ∙ type-none) (λ f. tt))
adds height_due l d' e =
    let q = some-from width_due (side_after (text "height ") l) e in
    let s = sided (text "height ") l q.0 q.1 in
    let g : width_due q.0 ≡ d' = some_same (rw q.1 at e) in
    rw (← g) (adds_none height_due (width_due q.0) l concat-none concat-none (s.none_in height-none) (λ f. s.most))
adds (width_due h) l d' e =
    let q = some-from (map_due h) (side_after (text "width ") l) e in
    let s = sided (text "width ") l q.0 q.1 in
    let g : map_due h q.0 ≡ d' = some_same (rw q.1 at e) in
    rw (← g) (adds_none (width_due h) (map_due h q.0) l concat-none concat-none (s.none_in width-none) (λ f. (f, s.most)))
adds (map_due h w) l d' e =
    let q = some-when (same l (text "map")) (row_due h w []) e in
    rw (← q.1) (adds_none (map_due h w) (row_due h w []) l concat-none concat-none (ap letters ((same-exactly l (text "map")).0 q.0) ∙ map-none) (λ f. (f.0, (f.1, rw concat-none (omega arith)))))
adds (row_due h w rs) l d' e =
    let q = some-when (ltb (length rs) h and is_row w l) (row_due h w (rs ++ (l ∷ []))) e in
    rw (← q.1) (adds-row h w rs l (and_right (ltb (length rs) h) (is_row w l) q.0))

-- ## A map that was read
pub record Sized (G : Grid) : Type 0 where
  pub high : G.height ≤ 64
  pub wide : G.width ≤ 64
  pub full : length (cells G) ≡ G.height * G.width

record Made (G : Grid) (l : Text) : Type 0 where
  sized : Sized G
  made : cells G ≡ l

at-end : (d : Due) (G : Grid) → map_end d ≡ some G → Fit d → Made G (concat (rows_of d))
unfolding map_end cells
at-end type_due G e f = never (cc)
at-end height_due G e f = never (cc)
at-end (width_due h) G e f = never (cc)
at-end (map_due h w) G e f = never (cc)
at-end (row_due h w rs) G e f =
    let q = some-when (eqb (length rs) h) (record { height = h; width = w; rows = rs }) e in
    rw (← q.1) (record {
      sized = record { high = f.0; wide = f.1.0; full = f.1.1 ∙ ap (λ k. k * w) (eqb-true (length rs) h q.0) };
      made = refl;
    })

made : (n : ℕ) (d : Due) (ls : List Text) (G : Grid) → read_lines map_line map_end n d ls ≡ good G → Fit d → Made G (concat (rows_of d) ++ letters (concat ls))
unfolding read_lines concat filter
made n d [] G e f =
    by-option (map_end d) (λ m. let z : bad_line n ≡ good G = rw m at e in never (cc))
    (λ g m.
    let z : g ≡ G = let y : good g ≡ good G = rw m at e in cc in
    let t : concat (rows_of d) ++ letters (concat []) ≡ concat (rows_of d) = ap (λ l. concat (rows_of d) ++ letters l) concat-none ∙ append-nil (concat (rows_of d)) in
    rw t (at-end d G (m ∙ ap some z) f))
made n d (l ∷ ls) G e f =
    by-option (map_line d l) (λ m. let z : bad_line n ≡ good G = rw m at e in never (cc))
    (λ d' m.
    let a = adds d l d' m in
    let g = made (suc n) d' ls G (rw m at e) (a.fit f) in
    record {
      sized = g.sized;
      made = g.made ∙ ap (λ k. k ++ letters (concat ls)) a.rows ∙ append_assoc (concat (rows_of d)) (letters l) (letters (concat ls))
          ∙ ap (λ k. concat (rows_of d) ++ k) (sym (ap letters (concat-cons l ls) ∙ filter-append letter l (concat ls)));
    })

of-file : (file : Text) (G : Grid) → read_map file ≡ good G → Made G (letters file)
unfolding read_map
of-file file G e =
    let m = made 1 type_due (lines file) G e tt in
    record { sized = m.sized; made = m.made ∙ ap (λ k. k ++ letters (concat (lines file))) concat-none ∙ sym (letters-lines file) }

pub map-sized : (file : Text) (G : Grid) → read_map file ≡ good G → Sized G
map-sized file G e = (of-file file G e).sized

pub map-cells : (file : Text) (G : Grid) → read_map file ≡ good G → cells G ≡ letters file
map-cells file G e = (of-file file G e).made

pub letters-fit : (file : Text) (s : ℕ × ℕ) → good s ≡ sides_read (read_map file) → length (letters file) ≤ 4096
letters-fit file s e =
    by_read (read_map file)
    (λ G q.
    let z = map-sized file G q in
    let m : G.height * G.width ≤ 64 * 64 = mul-le-mul z.high z.wide in
    omega (arith, z.full, ap length (map-cells file G q)))
    (λ n q. let y : good s ≡ bad_line n = rw q at e in never (cc))

pub reads-good : (file before : Text) (h w : ℕ) → good (h, w) ≡ sides_read (read_map file) → (after : List ℕ) → Wrote before 0 (numbering 0 (letters file)) after (length (letters file)) → (k : ℕ) → k ≡ count bay_letter (letters file) → Reads file before (Ok (record { height = h; width = w; bays = k })) after
unfolding bay_count
reads-good file before h w e after wrote k c =
    by_read (read_map file)
    (λ G q.
    let y : ◌≡◌ {A = Read (ℕ × ℕ)} (good (h, w)) (good (G.height, G.width)) = rw q at e in
    let x : ◌≡◌ {A = ℕ × ℕ} (h, w) (G.height, G.width) = cc in
    let a : h ≡ G.height = ap (λ p. p.0) x in
    let b : w ≡ G.width = ap (λ p. p.1) x in
    let f = map-cells file G q in
    record {
      answer = rw q (λ i. good (a i, b i, (c ∙ ap (count bay_letter) (sym f)) i));
      numbers = rw q (wrote.left ∙ ap (λ l. sets before 0 (numbering 0 l)) (sym f));
    })
    (λ n q. let y : good (h, w) ≡ bad_line n = rw q at e in never (cc))
