-- Sets of bays, for any count of words: a bay's word and bit say all, so what is done word by word is done bay by bay.
use mathlib.Core.Path.{◌≡◌, refl, sym, ap, ◌∙◌}
use mathlib.Core.Bool.{Bool, true, false, not}
use mathlib.Core.List.{List, ◌∷◌, ◌++◌}
use Prim.Native.Nat.{ℕ, zero, suc, ◌+◌, ◌*◌, ◌/◌, ◌%◌, ◌^◌, ◌≤◌, ◌<◌}
use native.Mathlib.Decide.{ℕ_discrete}
use native.Mathlib.Omega.{arith}
use native.Mathlib.Nat.{pow-suc}
use lib.Bits.{bit_or}
use lib.Count.{ones, ones_step}
use lib.Dec.{eqb}
use lib.ListN.{length, get_or, set, replicate, length-append, get_or-eq_default}
use lib.Pow.{pow-lt}
use lib.Seq.{get_or-set_same, get_or-set_other, ext_get_or}
use borrow.Author.Tests.{eq-eqb, ne_eqb}
use Rattle.paper.specs.Basics.{◌and◌, ◌or◌, filter, count_from, up_to}
use Rattle.paper.proofs.Tests.{not-both}
use Rattle.paper.proofs.Members.{filter-append}
use Rattle.words.specs.Sets.{on, mem, mem_row, words, span, bit_of, less_word}
use Rattle.words.proofs.Bits.{bit-half, bit-low, on_or, on-less, on-zero, on_one}

-- past its last word a set has no member
pub mem-out : (ws : List ℕ) (x : ℕ) → 64 * length ws ≤ x → mem ws x ≡ false
unfolding mem
mem-out ws x h = rw (get_or-eq_default ws 0 {n = x / 64} (omega arith)) (on-zero (x % 64))

-- a fresh array of words has no member
abbrev pub zeros : ℕ → List ℕ
zeros k = replicate k 0

zero_word : (k i : ℕ) → get_or (zeros k) i 0 ≡ 0
zero_word zero i = refl
zero_word (suc k) zero = refl
zero_word (suc k) (suc i) = zero_word k i

pub mem-zeros : (k x : ℕ) → mem (zeros k) x ≡ false
unfolding mem
mem-zeros k x = rw (zero_word k (x / 64)) (on-zero (x % 64))

-- a row of a table lies on whole words
pub mem-row : (ws : List ℕ) (a b : ℕ) → mem_row ws a b ≡ on (get_or ws (a * words + b / 64) 0) (b % 64)
unfolding mem
mem-row ws a b =
    let q : (a * span + b) / 64 ≡ a * words + b / 64 = omega arith in
    let r : (a * span + b) % 64 ≡ b % 64 = omega arith in
    rw (q, r)

-- row 0 of a table is the table's first set
pub row_zero : (ws : List ℕ) (b : ℕ) → mem_row ws 0 b ≡ mem ws b
row_zero ws b = let e : 0 * span + b ≡ b = omega arith in rw e

-- ---- one bay joins or leaves

abbrev pub with : List ℕ → ℕ → List ℕ
with ws x = set ws (x / 64) (bit_or (get_or ws (x / 64) 0) (2 ^ (x % 64)))

abbrev pub less : List ℕ → ℕ → List ℕ
less ws x = set ws (x / 64) (less_word (get_or ws (x / 64) 0) (2 ^ (x % 64)))

same_bit : (x y : ℕ) → y / 64 ≡ x / 64 → eqb (y % 64) (x % 64) ≡ eqb y x
same_bit x y e = elim (ℕ_discrete y x) [
  | yes q ↦ rw (q, eq-eqb (x % 64) (x % 64) refl, eq-eqb x x refl)
  | no q ↦ ne_eqb (y % 64) (x % 64) (λ d. q (omega arith)) ∙ sym (ne_eqb y x q)
]

pub or-false : (a b : Bool) → b ≡ false → a or b ≡ a
unfolding ◌or◌
or-false true b e = refl
or-false false b e = e

and-true : (a b : Bool) → b ≡ true → a and b ≡ a
unfolding ◌and◌
and-true true b e = e
and-true false b e = refl

other-bay : (x y : ℕ) → (y / 64 ≡ x / 64 → ⊥) → eqb y x ≡ false
other-bay x y n = ne_eqb y x (λ e. n (ap (λ (v : ℕ). v / 64) e))

pub mem-with : (ws : List ℕ) (x y : ℕ) → x / 64 < length ws → mem (with ws x) y ≡ mem ws y or eqb y x
unfolding mem
mem-with ws x y h = elim (ℕ_discrete (y / 64) (x / 64)) [
  | yes e ↦
      let w : ℕ = get_or ws (x / 64) 0 in
      rw (e, get_or-set_same ws (x / 64) (bit_or w (2 ^ (x % 64))) 0 h)
      (on_or w (2 ^ (x % 64)) (y % 64) ∙ ap (λ (t : Bool). on w (y % 64) or t) (on_one (x % 64) (y % 64) ∙ same_bit x y e))
  | no n ↦
      ap (λ (v : ℕ). on v (y % 64)) (get_or-set_other ws (x / 64) (y / 64) (bit_or (get_or ws (x / 64) 0) (2 ^ (x % 64))) 0 n)
      ∙ sym (or-false _ (eqb y x) (other-bay x y n))
]

pub mem-less : (ws : List ℕ) (x y : ℕ) → x / 64 < length ws → mem (less ws x) y ≡ mem ws y and not (eqb y x)
unfolding mem
mem-less ws x y h = elim (ℕ_discrete (y / 64) (x / 64)) [
  | yes e ↦
      let w : ℕ = get_or ws (x / 64) 0 in
      rw (e, get_or-set_same ws (x / 64) (less_word w (2 ^ (x % 64))) 0 h)
      (on-less w (2 ^ (x % 64)) (y % 64) (omega arith) (pow-lt (let k : x % 64 < 64 = omega arith in k))
      ∙ ap (λ (t : Bool). on w (y % 64) and not t) (on_one (x % 64) (y % 64) ∙ same_bit x y e))
  | no n ↦
      ap (λ (v : ℕ). on v (y % 64)) (get_or-set_other ws (x / 64) (y / 64) (less_word (get_or ws (x / 64) 0) (2 ^ (x % 64))) 0 n)
      ∙ sym (and-true _ (not (eqb y x)) (ap not (other-bay x y n)))
]

-- where bay y stands, x's bit is set only if y is x
pub on_bit : (x y : ℕ) → on (bit_of x (y / 64)) (y % 64) ≡ eqb y x
unfolding bit_of
on_bit x y = elim (ℕ_discrete (x / 64) (y / 64)) [
  | yes e ↦ rw (eq-eqb (x / 64) (y / 64) e) (on_one (x % 64) (y % 64) ∙ same_bit x y (sym e))
  | no n ↦ rw (ne_eqb (x / 64) (y / 64) n) (on-zero (y % 64) ∙ sym (other-bay x y (λ e. n (sym e))))
]

pub bit-fits : (x i : ℕ) → bit_of x i < 2 ^ 64
unfolding bit_of
bit-fits x i = elim (ℕ_discrete (x / 64) i) [
  | yes e ↦ rw (eq-eqb (x / 64) i e) (pow-lt (let k : x % 64 < 64 = omega arith in k))
  | no n ↦ rw (ne_eqb (x / 64) i n) (omega arith)
]

-- ---- how many members

pub count-split : (a k m : ℕ) → count_from a (k + m) ≡ count_from a k ++ count_from (a + k) m
unfolding count_from
count-split a zero m = let e : zero + m ≡ m = omega arith in let d : a + zero ≡ a = omega arith in rw (e, d)
count-split a (suc k) m =
    let e : suc k + m ≡ suc (k + m) = omega arith in
    let d : a + suc k ≡ suc a + k = omega arith in
    rw (e, d) (ap (λ (l : List ℕ). a ∷ l) (count-split (suc a) k m))

-- those of d numbers that pass are the ones of a word of d bits
ones-pass : (f : ℕ → Bool) (d a w : ℕ) → w < 2 ^ d → ((k : ℕ) → k < d → f (a + k) ≡ on w k)
    → length (filter f (count_from a d)) ≡ ones w
unfolding filter count_from on
ones-pass f zero a w h g = let e : w ≡ 0 = omega arith in rw e (unfold ones in refl)
ones-pass f (suc d) a w h g =
    let p : 2 ^ suc d ≡ 2 ^ d * 2 = pow-suc 2 d in
    let ih =
    ones-pass f d (suc a) (w / 2) (omega arith)
    (λ k l. let e : suc a + k ≡ a + suc k = omega arith in ap f e ∙ g (suc k) (omega arith) ∙ ap (λ (n : ℕ). eqb n 1) (bit-half w k)) in
    let first : f a ≡ eqb (w % 2) 1 =
    let e : a ≡ a + 0 = omega arith in ap f e ∙ g 0 (omega arith) ∙ ap (λ (n : ℕ). eqb n 1) (bit-low w) in
    head (w % 2) refl first ih
  where
    head : (r : ℕ) → w % 2 ≡ r → f a ≡ eqb (w % 2) 1 → length (filter f (count_from (suc a) d)) ≡ ones (w / 2)
        → length (filter f (count_from a (suc d))) ≡ ones w
    head zero e q ih = let t : f a ≡ false = rw e at q in rw t (ih ∙ sym (ones_step w ∙ rw e (omega arith)))
    head (suc zero) e q ih = let t : f a ≡ true = rw e at q in rw t (omega (arith, ih, ones_step w))
    head (suc (suc r)) e q ih = absurd (omega arith)

pub word-bit : (ws : List ℕ) (i k : ℕ) → k < 64 → mem ws (64 * i + k) ≡ on (get_or ws i 0) k
unfolding mem
word-bit ws i k l =
    let q : (64 * i + k) / 64 ≡ i = omega arith in
    let r : (64 * i + k) % 64 ≡ k = omega arith in
    rw (q, r)

-- one word more has its ones more members
pub count_word : (ws : List ℕ) (i : ℕ) → get_or ws i 0 < 2 ^ 64
    → length (filter (mem ws) (up_to (64 * (i + 1)))) ≡ length (filter (mem ws) (up_to (64 * i))) + ones (get_or ws i 0)
count_word ws i h =
    let e : 64 * (i + 1) ≡ 64 * i + 64 = omega arith in
    let d : 0 + 64 * i ≡ 64 * i = omega arith in
    rw (e, count-split 0 (64 * i) 64, d, filter-append, length-append)
    (ap (λ (n : ℕ). length (filter (mem ws) (up_to (64 * i))) + n) (ones-pass (mem ws) 64 (64 * i) (get_or ws i 0) h (word-bit ws i)))

-- ---- a set's members tell its words

same-bit-value : (x y : ℕ) → x ≤ 1 → y ≤ 1 → eqb x 1 ≡ eqb y 1 → x ≡ y
same-bit-value zero zero h k e = refl
same-bit-value zero (suc zero) h k e = not-both e refl
same-bit-value (suc zero) zero h k e = not-both refl e
same-bit-value (suc zero) (suc zero) h k e = refl
same-bit-value (suc (suc x)) y h k e = absurd (omega arith)
same-bit-value zero (suc (suc y)) h k e = absurd (omega arith)
same-bit-value (suc zero) (suc (suc y)) h k e = absurd (omega arith)

same_word : (d a b : ℕ) → a < 2 ^ d → b < 2 ^ d → ((k : ℕ) → k < d → on a k ≡ on b k) → a ≡ b
unfolding on
same_word zero a b h k f = omega arith
same_word (suc d) a b h k f =
    let p : 2 ^ suc d ≡ 2 ^ d * 2 = pow-suc 2 d in
    let ih =
    same_word d (a / 2) (b / 2) (omega arith) (omega arith)
    (λ i l.
    ap (λ (n : ℕ). eqb n 1) (sym (bit-half a i)) ∙ f (suc i) (omega arith) ∙ ap (λ (n : ℕ). eqb n 1) (bit-half b i)) in
    let low =
    same-bit-value (a % 2) (b % 2) (omega arith) (omega arith)
    (ap (λ (n : ℕ). eqb n 1) (sym (bit-low a)) ∙ f 0 (omega arith) ∙ ap (λ (n : ℕ). eqb n 1) (bit-low b)) in
    omega arith

-- Two lists of as many 64-bit words that hold the same bays are one.
pub same-words : (a b : List ℕ) → length a ≡ length b → ((i : ℕ) → get_or a i 0 < 2 ^ 64) → ((i : ℕ) → get_or b i 0 < 2 ^ 64)
    → ((x : ℕ) → mem a x ≡ mem b x) → a ≡ b
same-words a b l fa fb f =
    ext_get_or 0 a b l
    (λ i h. same_word 64 (get_or a i 0) (get_or b i 0) (fa i) (fb i) (λ k j. sym (word-bit a i k j) ∙ f (64 * i + k) ∙ word-bit b i k j))
