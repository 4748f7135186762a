-- Two writes, the second where the first ended, are one write of both texts: storing goes place by place.
use mathlib.Core.Path.{◌≡◌, refl, sym, ◌∙◌, ap}
use mathlib.Core.List.{List, [], ◌∷◌, ◌++◌}
use Prim.Native.Nat.{ℕ, ◌+◌, ◌≤◌, ◌<◌}
use native.Mathlib.Omega.{arith}
use native.Mathlib.Numerals.{add-one}
use lib.ListN.{length, set, take, drop, get_or, length-append}
use lib.Seq.{length-sets, sets-eq, take-suc, take-append_seam, take_all}
use Rattle.lists.proofs.Lists.{sets-append}
use Rattle.stores.specs.Writing.{Wrote}

pub wrote_none : (l : List ℕ) (i : ℕ) → Wrote l i [] l i
wrote_none l i = record { left = refl; counted = omega arith }

pub wrote_then : {l m k t u : List ℕ} {i j n : ℕ} → Wrote l i t m j → Wrote m j u k n → Wrote l i (t ++ u) k n
wrote_then {l} {m} {k} {t} {u} {i} {j} {n} a b = record {
  left = b.left ∙ rw (a.left, a.counted) (sym (sets-append l i t u));
  counted = b.counted ∙ rw a.counted (simp length-append (omega arith));
}

-- one more
pub wrote_one : (x : ℕ) {l m k t : List ℕ} {i j n : ℕ} → Wrote l i t m j → k ≡ set m j x → n ≡ j + 1 → Wrote l i (t ++ (x ∷ [])) k n
wrote_one x a e f = wrote_then a (record { left = e; counted = f })

-- one more of a text that is stored from its beginning on
pub wrote-next : (t : List ℕ) (j : ℕ) {l m k : List ℕ} {i p q : ℕ} → j < length t → Wrote l i (take j t) m p → k ≡ set m p (get_or t j 0) → q ≡ p + 1 → Wrote l i (take (j + 1) t) k q
wrote-next t j h a e f = rw (add-one j, take-suc t j 0 h) (wrote_one (get_or t j 0) a e f)

pub wrote-all : (t : List ℕ) (j : ℕ) {l m : List ℕ} {i n : ℕ} → length t ≤ j → Wrote l i (take j t) m n → Wrote l i t m n
wrote-all t j h a = rw (take_all j t h) at a

-- writing keeps the length
pub wrote-length : {l m t : List ℕ} {i n : ℕ} → Wrote l i t m n → length m ≡ length l
wrote-length {l} {m} {t} {i} {n} a = ap length a.left ∙ length-sets l i t

-- What was written and fits stands in the list.
pub wrote-stands : {l m t : List ℕ} {n : ℕ} → Wrote l 0 t m n → n ≤ length l → take n m ≡ t
wrote-stands {l} {m} {t} {n} a h =
    let f : n ≡ length t = a.counted ∙ omega arith in
    let g : length t ≤ length l = omega arith in
    rw (a.left, f, sets-eq t l 0 (omega arith)) (take-append_seam t (drop (0 + length t) l))
