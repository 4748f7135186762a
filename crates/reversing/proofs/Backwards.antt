-- The reverse of a list of numbers, place by place: turning twice and going backwards twice both give back what was there, so reversing does;
-- and going backwards over two lists meets the second first.
use mathlib.Core.Path.{◌≡◌, refl, sym, ◌∙◌, ap, ap₂}
use mathlib.Core.List.{List, [], ◌∷◌, ◌++◌, map, reverse, reverse-cons, reverse-append, reverse-reverse, map-append}
use Prim.Native.Nat.{ℕ, suc, ◌<◌, ◌-◌, ◌+◌}
use native.Mathlib.Omega.{arith}
use native.Mathlib.Decide.{dec_lt}
use lib.ListN.{length, get_or, length-map, length-reverse, get_or-map, get_or-append}
use lib.Seq.{get_or-append-add}
use Rattle.paper.specs.Yard.{Crossing, crossing, turned, reverse_of, pack, unpack, crossings, named}
use Rattle.paper.proofs.Packing.{unpack-pack, pack-unpack}
use Rattle.reversing.specs.Reversing.{reversed}

-- ## Lists of anything

pub map-reverse : {A B : Type 0} (f : A → B) (l : List A) → map f (reverse l) ≡ reverse (map f l)
map-reverse f [] = refl
map-reverse f (x ∷ l) = rw (reverse-cons x l, reverse-cons (f x) (map f l), map-append f (reverse l) (x ∷ [])) (ap (λ r. r ++ (f x ∷ [])) (map-reverse f l))

pub get_d_reverse : {A : Type 0} (d : A) (l : List A) (i : ℕ) → i < length l → get_or (reverse l) i d ≡ get_or l (length l - 1 - i) d
get_d_reverse d [] i h = absurd (omega arith)
get_d_reverse d (x ∷ l) i h = elim (dec_lt i (length l)) [
  | yes k ↦
      let e : suc (length l) - 1 - i ≡ suc (length l - 1 - i) = omega arith in
      rw (reverse-cons, e) (get_or-append (reverse l) (x ∷ []) d i (rw length-reverse k) ∙ get_d_reverse d l i k)
  | no k ↦
      let e : suc (length l) - 1 - i ≡ 0 = omega arith in
      let f : i ≡ length (reverse l) + 0 = rw length-reverse (omega arith) in
      rw (reverse-cons, e) (ap (λ j. get_or (reverse l ++ (x ∷ [])) j d) f ∙ get_or-append-add (reverse l) (x ∷ []) 0 d)
]

-- ## Numbers

-- the number of the crossing with from and to exchanged
abbrev pub turned_number : ℕ → ℕ
turned_number w = pack (turned (unpack w))

-- a number's bays are below 2^16, so the exchanged crossing reads back from its number
pub turned-reads : (w : ℕ) → unpack (turned_number w) ≡ turned (unpack w)
unfolding unpack
turned-reads w = unpack-pack (turned (unpack w)) (omega arith) (omega arith)

pub turned-twice : (w : ℕ) → turned_number (turned_number w) ≡ w
turned-twice w = ap (λ x. pack (turned x)) (turned-reads w) ∙ pack-unpack w

-- ## Crossings

pub reverse-of-length : (xs : List Crossing) → length (reverse_of xs) ≡ length xs
unfolding reverse_of
reverse-of-length xs = length-map (reverse xs) turned ∙ length-reverse xs

pub reverse-of-twice : (xs : List Crossing) → reverse_of (reverse_of xs) ≡ xs
unfolding reverse_of
reverse-of-twice xs = ap (map turned) (sym (map-reverse turned (reverse xs)) ∙ ap (map turned) (reverse-reverse xs)) ∙ again xs
  where
    again : (ys : List Crossing) → map turned (map turned ys) ≡ ys
    again [] = refl
    again (y ∷ ys) = ap (λ l. y ∷ l) (again ys)

-- the crossing at a place of the reverse is the one at the mirrored place, exchanged
pub reverse-of-at : (xs : List Crossing) (i : ℕ) → i < length xs → named (reverse_of xs) i ≡ turned (named xs (length xs - 1 - i))
unfolding reverse_of
reverse-of-at xs i h = get_or-map turned (reverse xs) i (crossing 0 0 0) ∙ ap turned (get_d_reverse (crossing 0 0 0) xs i h)

-- ## Lists of numbers

pub reversed-is : (list : List ℕ) → reversed list ≡ map turned_number (reverse list)
unfolding reversed reverse_of
reversed-is list = ap (λ l. map pack (map turned l)) (sym (map-reverse unpack list)) ∙ at_once (reverse list)
  where
    at_once : (l : List ℕ) → map pack (map turned (map unpack l)) ≡ map turned_number l
    at_once [] = refl
    at_once (w ∷ l) = ap (λ r. turned_number w ∷ r) (at_once l)

-- the reverse reads as the crossings' reverse
pub reversed-reads : (list : List ℕ) → crossings (reversed list) ≡ reverse_of (crossings list)
unfolding reverse_of
reversed-reads list = ap crossings (reversed-is list) ∙ each (reverse list) ∙ ap (map turned) (map-reverse unpack list)
  where
    each : (l : List ℕ) → map unpack (map turned_number l) ≡ map turned (map unpack l)
    each [] = refl
    each (w ∷ l) = ap₂ (λ x r. x ∷ r) (turned-reads w) (each l)

pub reversed-length : (list : List ℕ) → length (reversed list) ≡ length list
reversed-length list = ap length (reversed-is list) ∙ length-map (reverse list) turned_number ∙ length-reverse list

pub reversed-at : (list : List ℕ) (i : ℕ) → i < length list → get_or (reversed list) i 0 ≡ turned_number (get_or list (length list - 1 - i) 0)
unfolding pack unpack
reversed-at list i h =
    ap (λ l. get_or l i 0) (reversed-is list) ∙ get_or-map turned_number (reverse list) i 0 ∙ ap turned_number (get_d_reverse 0 list i h)

-- Reversing twice gives the same list.
pub reversed-twice : (list : List ℕ) → reversed (reversed list) ≡ list
reversed-twice list =
    reversed-is (reversed list)
    ∙ ap (λ l. map turned_number (reverse l)) (reversed-is list)
    ∙ ap (map turned_number) (sym (map-reverse turned_number (reverse list)) ∙ ap (map turned_number) (reverse-reverse list))
    ∙ again list
  where
    again : (l : List ℕ) → map turned_number (map turned_number l) ≡ l
    again [] = refl
    again (w ∷ l) = ap₂ (λ v r. v ∷ r) (turned-twice w) (again l)

-- The reverse of one list followed by another is the second's reverse followed by the first's.
pub reversed-joined : (a b : List ℕ) → reversed (a ++ b) ≡ reversed b ++ reversed a
reversed-joined a b =
    reversed-is (a ++ b)
    ∙ ap (map turned_number) (reverse-append a b)
    ∙ map-append turned_number (reverse b) (reverse a)
    ∙ sym (ap₂ (λ l r. l ++ r) (reversed-is b) (reversed-is a))
