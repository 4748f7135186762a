-- Going through a set's members in rising order and joining their rows leaves no neighbour out: between two members nothing is added.
use mathlib.Core.Path.{◌≡◌, refl, sym, ◌∙◌}
use mathlib.Core.Bool.{Bool, true, false}
use mathlib.Core.List.{List}
use Prim.Native.Nat.{ℕ, zero, suc, ◌+◌, ◌-◌, ◌*◌, ◌^◌, ◌≤◌, ◌<◌}
use native.Mathlib.Decide.{ℕ_discrete, dec_lt}
use native.Mathlib.Numerals.{add-one}
use native.Mathlib.Omega.{arith}
use lib.Bits.{and_lt}
use lib.Count.{count_trailing_zeros, trailing_le, trailing_of_zero}
use lib.ListN.{get_or}
use Rattle.paper.specs.Basics.{◌and◌, ◌or◌}
use Rattle.paper.proofs.Tests.{not-both, or_left, or_right, or_cases}
use Rattle.words.specs.Sets.{on, mem, mem_row, span, any_below, reaches, Beside}
use Rattle.words.proofs.Bits.{on-lowest, on_below, later, later-on, later-lowest}
use Rattle.words.proofs.Sets.{word-bit}

-- two tests that imply each other are equal
pub equal-tests : (a b : Bool) → (a ≡ true → b ≡ true) → (b ≡ true → a ≡ true) → a ≡ b
equal-tests true b f g = sym (f refl)
equal-tests false true f g = g refl
equal-tests false false f g = refl

pub any_below-some : (f : ℕ → Bool) (k : ℕ) → any_below f k ≡ true → (a : ℕ) × (a < k) × (f a ≡ true)
unfolding any_below
any_below-some f zero h = not-both h refl
any_below-some f (suc k) h =
    or_cases (any_below f k) (f k) h
    (λ e. let r = any_below-some f k e in (r.0, omega (arith, r.1), r.2))
    (λ e. (k, omega arith, e))

pub any_below-of : (f : ℕ → Bool) (k a : ℕ) → a < k → f a ≡ true → any_below f k ≡ true
unfolding any_below
any_below-of f zero a h e = absurd (omega arith)
any_below-of f (suc k) a h e = elim (ℕ_discrete a k) [
  | yes q ↦ or_right (any_below f k) (f k) (rw q at e)
  | no q ↦ or_left (any_below f k) (f k) (any_below-of f k a (omega arith) e)
]

pub any_below-skip : (f : ℕ → Bool) (a b : ℕ) → a ≤ b → ((i : ℕ) → a ≤ i → i < b → f i ≡ false) → any_below f b ≡ any_below f a
any_below-skip f a b h n =
    equal-tests _ _
    (λ e. let r = any_below-some f b e in elim (dec_lt r.0 a) [
      | yes q ↦ any_below-of f a r.0 q r.2
      | no q ↦ not-both r.2 (n r.0 (omega arith) r.1)
    ])
    (λ e. let r = any_below-some f a e in any_below-of f b r.0 (omega (arith, r.1)) r.2)

module _ (table set : List ℕ) where
  -- nothing is beside no bay
  pub beside_none : (found : List ℕ) → ((x : ℕ) → mem found x ≡ false) → Beside table set found 0
  beside_none found h = record { same = λ b k. h b ∙ unfold any_below in refl }

  -- bays that are not in the set add nothing
  pub beside-skip : (found : List ℕ) (a a' : ℕ) → a ≤ a' → ((k : ℕ) → a ≤ k → k < a' → mem set k ≡ false) → Beside table set found a → Beside table set found a'
  beside-skip found a a' h f s = record {
    same = λ b k. s.same b k ∙ sym (any_below-skip (reaches table set b) a a' h (λ i p q. unfold ◌and◌ in rw (f i p q)));
  }

  -- member a's row joins
  pub beside-join : (found found' : List ℕ) (a : ℕ) → Beside table set found a → mem set a ≡ true
      → ((b : ℕ) → b < span → mem found' b ≡ mem found b or mem_row table a b) → Beside table set found' (a + 1)
  beside-join found found' a s m j = record {
    same = λ b k.
        let f : ℕ → Bool = reaches table set b in
        let one : any_below f (suc a) ≡ any_below f a or f a = unfold any_below in refl in
        let here : f a ≡ mem_row table a b = unfold ◌and◌ in rw m in
        j b k ∙ rw (s.same b k) (sym (rw (add-one, one, here)));
  }

  -- ---- word i, whose lowest bits are taken off one by one

  -- what is left of it are the set's bays from its lowest bit on
  pub record Rest (i left : ℕ) : Type 0 where
    pub fits : left < 2 ^ 64
    pub same : (k : ℕ) → count_trailing_zeros 64 left ≤ k → k < 64 → mem set (i * 64 + k) ≡ on left k

  module _ (i left : ℕ) where
    pub rest-whole : left ≡ get_or set i 0 → left < 2 ^ 64 → Rest i left
    rest-whole e h = record { fits = h; same = λ k a b. let z : i * 64 ≡ 64 * i = omega arith in rw (z, e) (word-bit set i k b) }

    pub whole-first : (found : List ℕ) → left ≡ get_or set i 0 → Beside table set found (i * 64) → Beside table set found (i * 64 + count_trailing_zeros 64 left)
    whole-first found e s =
        beside-skip found (i * 64) (i * 64 + count_trailing_zeros 64 left) (omega arith)
        (λ k a b.
        let j : ℕ = k - i * 64 in
        let z : k ≡ 64 * i + j = omega arith in
        let t : j < count_trailing_zeros 64 left = omega arith in
        rw z (word-bit set i j (omega (arith, trailing_le 64 left)) ∙ rw (← e) (on_below left j t)))
        s

    module _ (r : Rest i left) (some : 0 < left) where
      pub rest-low : count_trailing_zeros 64 left < 64
      rest-low = (on-lowest left some r.fits).0

      pub rest-member : mem set (i * 64 + count_trailing_zeros 64 left) ≡ true
      rest-member = let z = on-lowest left some r.fits in r.same (count_trailing_zeros 64 left) (omega arith) z.0 ∙ z.1

      pub rest-later : Rest i (later left)
      rest-later =
          let l = later-lowest left some r.fits in
          record {
            fits = and_lt 64 left (left - 1) r.fits (omega (arith, r.fits));
            same = λ k a b. r.same k (omega arith) b ∙ sym (later-on left some r.fits k (omega arith));
          }

      pub join-later : (found found' : List ℕ) → Beside table set found (i * 64 + count_trailing_zeros 64 left)
          → ((b : ℕ) → b < span → mem found' b ≡ mem found b or mem_row table (i * 64 + count_trailing_zeros 64 left) b)
          → Beside table set found' (i * 64 + count_trailing_zeros 64 (later left))
      join-later found found' s j =
          let l = later-lowest left some r.fits in
          beside-skip found' (i * 64 + count_trailing_zeros 64 left + 1) (i * 64 + count_trailing_zeros 64 (later left)) (omega arith)
          (λ k a b.
          let m : ℕ = k - i * 64 in
          let z : k ≡ i * 64 + m = omega arith in
          rw z
          (r.same m (omega arith) (omega (arith, trailing_le 64 (later left)))
          ∙ sym (later-on left some r.fits m (omega arith))
          ∙ on_below (later left) m (omega arith)))
          (beside-join found found' (i * 64 + count_trailing_zeros 64 left) s rest-member j)

  -- with no bit left the word is done
  pub rest-none : (found : List ℕ) (i : ℕ) → Beside table set found (i * 64 + count_trailing_zeros 64 0) → Beside table set found (i * 64 + 64)
  rest-none found i s = rw (trailing_of_zero 64) at s
