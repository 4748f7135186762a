-- Bits of one word: a shift by k brings bit k to the front, and or, and, not and the counts work bit by bit there.
use mathlib.Core.Path.{◌≡◌, refl, sym, ap, ◌∙◌}
use mathlib.Core.Bool.{Bool, true, false, not}
use Prim.Native.Nat.{ℕ, zero, suc, ◌+◌, ◌-◌, ◌*◌, ◌/◌, ◌%◌, ◌^◌, ◌≤◌, ◌<◌, min, max}
use native.Mathlib.Nat.{div_self, div-eq_of_lt, mul-mod_left, pow-suc, one-mul, div-one, mod-eq_of_lt}
use native.Mathlib.Decide.{ℕ_discrete, dec_lt}
use native.Mathlib.Numerals.{one-add}
use native.Mathlib.Omega.{arith}
use lib.Bits.{bit_and, bit_or, and_lt, and_shr, or_shr, and_step, or_step}
use lib.Count.{count_trailing_zeros, under, trailing_of_zero}
use lib.Dec.{eqb}
use lib.Pow.{pow_pos, pow-lt, pow-add, shl-shr, shr-shr, shr_lt}
use borrow.Author.Tests.{eq-eqb, ne_eqb}
use Rattle.paper.specs.Basics.{◌and◌, ◌or◌}
use Rattle.paper.proofs.Tests.{not-both}
use Rattle.words.specs.Sets.{bit, on, less_word}

-- ---- bits as numbers

low_or : (a b : ℕ) → bit_or a b % 2 ≡ max (a % 2) (b % 2)
low_or a b = ap (λ (n : ℕ). n % 2) (or_step a b) ∙ omega arith

low_and : (a b : ℕ) → bit_and a b % 2 ≡ min (a % 2) (b % 2)
low_and a b = ap (λ (n : ℕ). n % 2) (and_step a b) ∙ omega arith

bit-or : (a b k : ℕ) → bit (bit_or a b) k ≡ max (bit a k) (bit b k)
unfolding bit
bit-or a b k = ap (λ (n : ℕ). n % 2) (or_shr a b k) ∙ low_or (a / 2 ^ k) (b / 2 ^ k)

bit-and : (a b k : ℕ) → bit (bit_and a b) k ≡ min (bit a k) (bit b k)
unfolding bit
bit-and a b k = ap (λ (n : ℕ). n % 2) (and_shr a b k) ∙ low_and (a / 2 ^ k) (b / 2 ^ k)

bit_le : (w k : ℕ) → bit w k ≤ 1
unfolding bit
bit_le w k = omega arith

bit-zero : (k : ℕ) → bit 0 k ≡ 0
unfolding bit
bit-zero k = ap (λ (n : ℕ). n % 2) (div-eq_of_lt (pow_pos k))

bit-one-same : (k : ℕ) → bit (2 ^ k) k ≡ 1
unfolding bit
bit-one-same k = ap (λ (n : ℕ). n % 2) (div_self (pow_pos k))

bit-one-below : (m k : ℕ) → bit (2 ^ (suc m + k)) k ≡ 0
unfolding bit
bit-one-below m k =
    ap (λ (n : ℕ). n / 2 ^ k % 2) (pow-add 2 (suc m) k) ∙ ap (λ (n : ℕ). n % 2) (shl-shr (2 ^ suc m) k)
    ∙ ap (λ (n : ℕ). n % 2) (pow-suc 2 m) ∙ mul-mod_left (2 ^ m) 2

bit-one-other : (b k : ℕ) → (b ≡ k → ⊥) → bit (2 ^ b) k ≡ 0
unfolding bit
bit-one-other b k ne = elim (dec_lt b k) [
  | yes h ↦ ap (λ (n : ℕ). n % 2) (div-eq_of_lt (pow-lt h))
  | no h ↦
      let e : b ≡ suc (b - k - 1) + k = omega arith in
      ap (λ (n : ℕ). bit (2 ^ n) k) e ∙ bit-one-below (b - k - 1) k
]

-- a word's bits above the lowest are its half's
pub bit-half : (w k : ℕ) → bit w (suc k) ≡ bit (w / 2) k
unfolding bit
bit-half w k = ap (λ (n : ℕ). w / 2 ^ n % 2) (sym (one-add k)) ∙ ap (λ (n : ℕ). n % 2) (sym (shr-shr w 1 k))

pub bit-low : (w : ℕ) → bit w 0 ≡ w % 2
unfolding bit
bit-low w = ap (λ (n : ℕ). n % 2) (div-one w)

bit-shr : (w s k : ℕ) → bit (w / 2 ^ s) k ≡ bit w (s + k)
unfolding bit
bit-shr w s k = ap (λ (n : ℕ). n % 2) (shr-shr w s k)

-- the bits of `!b`
bit_not : (n k b : ℕ) → k < n → b < 2 ^ n → bit (2 ^ n - 1 - b) k ≡ 1 - bit b k
bit_not zero k b h l = absurd (omega arith)
bit_not (suc n) zero b h l =
    let p : 2 ^ suc n ≡ 2 ^ n * 2 = pow-suc 2 n in bit-low (2 ^ suc n - 1 - b) ∙ omega (arith, bit-low b)
bit_not (suc n) (suc k) b h l =
    let p : 2 ^ suc n ≡ 2 ^ n * 2 = pow-suc 2 n in
    let w : ℕ = 2 ^ suc n - 1 - b in
    let e : w / 2 ≡ 2 ^ n - 1 - b / 2 = omega arith in
    bit-half w k ∙ ap (λ (m : ℕ). bit m k) e ∙ bit_not n k (b / 2) (omega arith) (omega arith)
    ∙ ap (λ (m : ℕ). 1 - m) (sym (bit-half b k))

-- ---- the lowest bit that is set

lowest_set : (d w : ℕ) → 0 < w → w < 2 ^ d → (count_trailing_zeros d w < d) × (bit w (count_trailing_zeros d w) ≡ 1)
unfolding count_trailing_zeros
lowest_set zero w h k = absurd (omega arith)
lowest_set (suc d) w h k =
    go (w % 2) refl (λ e. lowest_set d (w / 2) (omega arith) (let p : 2 ^ suc d ≡ 2 ^ d * 2 = pow-suc 2 d in omega arith))
  where
    go : (r : ℕ) → w % 2 ≡ r → (w % 2 ≡ 0 → (count_trailing_zeros d (w / 2) < d) × (bit (w / 2) (count_trailing_zeros d (w / 2)) ≡ 1))
        → (under r (count_trailing_zeros d (w / 2)) < suc d) × (bit w (under r (count_trailing_zeros d (w / 2))) ≡ 1)
    go zero e f = let ih = f e in (omega (arith, ih.0), bit-half w (count_trailing_zeros d (w / 2)) ∙ ih.1)
    go (suc r) e f = (omega arith, bit-low w ∙ omega arith)

below-lowest : (d w k : ℕ) → k < count_trailing_zeros d w → bit w k ≡ 0
unfolding count_trailing_zeros
below-lowest zero w k h = absurd (omega arith)
below-lowest (suc d) w k h = go (w % 2) refl k h (λ j l. below-lowest d (w / 2) j l)
  where
    go : (r : ℕ) → w % 2 ≡ r → (j : ℕ) → j < under r (count_trailing_zeros d (w / 2))
        → ((i : ℕ) → i < count_trailing_zeros d (w / 2) → bit (w / 2) i ≡ 0) → bit w j ≡ 0
    go zero e zero l f = bit-low w ∙ e
    go zero e (suc j) l f = bit-half w j ∙ f j (omega arith)
    go (suc r) e j l f = absurd (omega arith)

-- one less than w clears w's lowest bit and leaves those above it
pred-lowest : (d w : ℕ) → 0 < w → w < 2 ^ d → bit (w - 1) (count_trailing_zeros d w) ≡ 0
unfolding count_trailing_zeros
pred-lowest zero w h l = absurd (omega arith)
pred-lowest (suc d) w h l =
    go (w % 2) refl (λ e. pred-lowest d (w / 2) (omega arith) (let p : 2 ^ suc d ≡ 2 ^ d * 2 = pow-suc 2 d in omega arith))
  where
    go : (r : ℕ) → w % 2 ≡ r → (w % 2 ≡ 0 → bit (w / 2 - 1) (count_trailing_zeros d (w / 2)) ≡ 0) → bit (w - 1) (under r (count_trailing_zeros d (w / 2))) ≡ 0
    go zero e f =
        let q : (w - 1) / 2 ≡ w / 2 - 1 = omega arith in
        bit-half (w - 1) (count_trailing_zeros d (w / 2)) ∙ ap (λ (n : ℕ). bit n (count_trailing_zeros d (w / 2))) q ∙ f e
    go (suc r) e f = bit-low (w - 1) ∙ omega arith

pred-above : (d w k : ℕ) → 0 < w → w < 2 ^ d → count_trailing_zeros d w < k → bit (w - 1) k ≡ bit w k
unfolding count_trailing_zeros
pred-above zero w k h l a = absurd (omega arith)
pred-above (suc d) w zero h l a = absurd (omega arith)
pred-above (suc d) w (suc k) h l a =
    bit-half (w - 1) k
    ∙ go (w % 2) refl a (λ e b. pred-above d (w / 2) k (omega arith) (let p : 2 ^ suc d ≡ 2 ^ d * 2 = pow-suc 2 d in omega arith) b)
    ∙ sym (bit-half w k)
  where
    go : (r : ℕ) → w % 2 ≡ r → under r (count_trailing_zeros d (w / 2)) < suc k
        → (w % 2 ≡ 0 → count_trailing_zeros d (w / 2) < k → bit (w / 2 - 1) k ≡ bit (w / 2) k) → bit ((w - 1) / 2) k ≡ bit (w / 2) k
    go zero e b f = let q : (w - 1) / 2 ≡ w / 2 - 1 = omega arith in ap (λ (n : ℕ). bit n k) q ∙ f e (omega arith)
    go (suc r) e b f = let q : (w - 1) / 2 ≡ w / 2 = omega arith in ap (λ (n : ℕ). bit n k) q

-- what is shifted has its bits below what is left of the word
pub lowest-left : (w s : ℕ) → s < 64 → w < 2 ^ 64 → 0 < w / 2 ^ s → count_trailing_zeros 64 (w / 2 ^ s) < 64 - s
lowest-left w s h l p =
    let f : w / 2 ^ s < 2 ^ (64 - s) = shr_lt (64 - s) s (let e : 64 - s + s ≡ 64 = omega arith in rw e l) in
    elim (dec_lt (count_trailing_zeros 64 (w / 2 ^ s)) (64 - s)) [
      | yes q ↦ q
      | no q ↦
          let r = lowest_set (64 - s) (w / 2 ^ s) p f in
          let z : ◌≡◌ {A = ℕ} 0 1 = sym (below-lowest 64 (w / 2 ^ s) (count_trailing_zeros (64 - s) (w / 2 ^ s)) (omega arith)) ∙ r.1 in
          absurd (omega arith)
    ]

-- ---- bits as tests

max-or : (x y : ℕ) → x ≤ 1 → y ≤ 1 → eqb (max x y) 1 ≡ eqb x 1 or eqb y 1
unfolding ◌or◌
max-or zero zero h k = refl
max-or zero (suc zero) h k = refl
max-or (suc zero) zero h k = refl
max-or (suc zero) (suc zero) h k = refl
max-or (suc (suc x)) y h k = absurd (omega arith)
max-or zero (suc (suc y)) h k = absurd (omega arith)
max-or (suc zero) (suc (suc y)) h k = absurd (omega arith)

min-and : (x y : ℕ) → x ≤ 1 → y ≤ 1 → eqb (min x y) 1 ≡ eqb x 1 and eqb y 1
unfolding ◌and◌
min-and zero zero h k = refl
min-and zero (suc zero) h k = refl
min-and (suc zero) zero h k = refl
min-and (suc zero) (suc zero) h k = refl
min-and (suc (suc x)) y h k = absurd (omega arith)
min-and zero (suc (suc y)) h k = absurd (omega arith)
min-and (suc zero) (suc (suc y)) h k = absurd (omega arith)

less-not : (x : ℕ) → x ≤ 1 → eqb (1 - x) 1 ≡ not (eqb x 1)
less-not zero h = refl
less-not (suc zero) h = refl
less-not (suc (suc x)) h = absurd (omega arith)

pub on_or : (a b k : ℕ) → on (bit_or a b) k ≡ on a k or on b k
unfolding on
on_or a b k = ap (λ (n : ℕ). eqb n 1) (bit-or a b k) ∙ max-or (bit a k) (bit b k) (bit_le a k) (bit_le b k)

pub on_and : (a b k : ℕ) → on (bit_and a b) k ≡ on a k and on b k
unfolding on
on_and a b k = ap (λ (n : ℕ). eqb n 1) (bit-and a b k) ∙ min-and (bit a k) (bit b k) (bit_le a k) (bit_le b k)

pub on-not : (b k : ℕ) → k < 64 → b < 2 ^ 64 → on (2 ^ 64 - 1 - b) k ≡ not (on b k)
unfolding on
on-not b k h l = ap (λ (n : ℕ). eqb n 1) (bit_not 64 k b h l) ∙ less-not (bit b k) (bit_le b k)

pub on-less : (a b k : ℕ) → k < 64 → b < 2 ^ 64 → on (less_word a b) k ≡ on a k and not (on b k)
on-less a b k h l = on_and a (2 ^ 64 - 1 - b) k ∙ ap (λ (t : Bool). on a k and t) (on-not b k h l)

pub on-zero : (k : ℕ) → on 0 k ≡ false
unfolding on
on-zero k = rw (bit-zero k)

pub on_one : (b k : ℕ) → on (2 ^ b) k ≡ eqb k b
unfolding on
on_one b k = elim (ℕ_discrete k b) [
  | yes e ↦ rw (e, bit-one-same b, eq-eqb b b refl)
  | no n ↦ rw (bit-one-other b k (λ e. n (sym e)), ne_eqb k b n)
]

pub on-lowest : (w : ℕ) → 0 < w → w < 2 ^ 64 → (count_trailing_zeros 64 w < 64) × (on w (count_trailing_zeros 64 w) ≡ true)
unfolding on
on-lowest w h l = let r = lowest_set 64 w h l in (r.0, rw r.1)

pub on_below : (w k : ℕ) → k < count_trailing_zeros 64 w → on w k ≡ false
unfolding on
on_below w k h = rw (below-lowest 64 w k h)

-- a word less its lowest bit, which the code takes off by `w & (w - 1)`
abbrev pub later : ℕ → ℕ
later w = bit_and w (w - 1)

module _ (w : ℕ) (h : 0 < w) (l : w < 2 ^ 64) where
  pub later-off : (k : ℕ) → k ≤ count_trailing_zeros 64 w → on (later w) k ≡ false
  unfolding on
  later-off k b = elim (dec_lt k (count_trailing_zeros 64 w)) [
    | yes q ↦ let z : min 0 (bit (w - 1) k) ≡ 0 = omega arith in rw (bit-and w (w - 1) k, below-lowest 64 w k q, z)
    | no q ↦
        let e : k ≡ count_trailing_zeros 64 w = omega arith in
        let z : min (bit w (count_trailing_zeros 64 w)) 0 ≡ 0 = omega arith in
        rw (bit-and w (w - 1) k, e, pred-lowest 64 w h l, z)
  ]

  pub later-on : (k : ℕ) → count_trailing_zeros 64 w < k → on (later w) k ≡ on w k
  unfolding on
  later-on k b = let e : min (bit w k) (bit w k) ≡ bit w k = omega arith in rw (bit-and w (w - 1) k, pred-above 64 w k h l b, e)

  pub later-lowest : count_trailing_zeros 64 w < count_trailing_zeros 64 (later w)
  later-lowest = elim (dec_lt (count_trailing_zeros 64 w) (count_trailing_zeros 64 (later w))) [
    | yes q ↦ q
    | no q ↦ elim (dec_lt 0 (later w)) [
      | yes p ↦ not-both (on-lowest (later w) p (and_lt 64 w (w - 1) l (omega arith))).1 (later-off (count_trailing_zeros 64 (later w)) (omega arith))
      | no p ↦ let z : later w ≡ 0 = omega arith in absurd (omega (arith, (on-lowest w h l).0, rw z at q, trailing_of_zero 64))
    ]
  ]

pub on-shr : (w s k : ℕ) → on (w / 2 ^ s) k ≡ on w (s + k)
unfolding on
on-shr w s k = ap (λ (n : ℕ). eqb n 1) (bit-shr w s k)

-- what the code's `1 << b` is
pub one_shl : (b : ℕ) → b < 64 → (1 * 2 ^ b) % 2 ^ 64 ≡ 2 ^ b
one_shl b h = ap (λ (n : ℕ). n % 2 ^ 64) (one-mul (2 ^ b)) ∙ mod-eq_of_lt (pow-lt h)
