-- A set of one word: below 64 its bits are its bays, and past them it has none. So what holds of sets and rings holds of it.
use mathlib.Core.Path.{◌≡◌, sym, ap, ap₂, ◌∙◌}
use mathlib.Core.Bool.{true, false, not}
use mathlib.Core.List.{List, [], ◌∷◌}
use Prim.Native.Nat.{ℕ, ◌+◌, ◌-◌, ◌*◌, ◌/◌, ◌%◌, ◌^◌, ◌≤◌, ◌<◌}
use native.Mathlib.Decide.{dec_lt}
use native.Mathlib.Omega.{arith}
use lib.Bits.{bit_or}
use lib.Count.{count_trailing_zeros, trailing_of_zero}
use lib.Dec.{eqb}
use lib.ListN.{get_or}
use borrow.Author.Tests.{ne_eqb}
use Rattle.paper.specs.Basics.{◌and◌, ◌or◌}
use Rattle.paper.specs.Yard.{Bay}
use Rattle.paper.proofs.Tests.{by_cases, not-both}
use Rattle.words.specs.Sets.{on, mem, mem_row, words, span, less_word, Lowest, Settled, Beside}
use Rattle.words.proofs.Bits.{on_or, on-less, on-not, on_one, on-lowest, on_below}
use Rattle.words.proofs.Sets.{mem-out, mem-zeros, mem-row, word-bit}
use Rattle.words.proofs.Besides.{beside_none, beside-skip}
use Rattle.apart.specs.Reaching.{Closed, FirstWords}
use Rattle.apart.proofs.Reaching.{Low}

pub in-word : (w b : ℕ) → b < 64 → mem (w ∷ []) b ≡ on w b
in-word w b h = let e : 64 * 0 + b ≡ b = omega arith in rw e at (word-bit (w ∷ []) 0 b h)

pub past_word : (w b : ℕ) → 64 ≤ b → mem (w ∷ []) b ≡ false
past_word w b h = mem-out (w ∷ []) b (omega arith)

row_word : (table : List ℕ) (a b : ℕ) → b < 64 → mem_row table a b ≡ on (get_or table (a * words) 0) b
row_word table a b h =
    let q : a * words + b / 64 ≡ a * words = omega arith in
    let r : b % 64 ≡ b = omega arith in
    mem-row table a b ∙ rw (q, r)

-- bay 0 alone
pub only-first : (x : ℕ) → mem (1 ∷ []) x ≡ mem [] x or eqb x 0
unfolding ◌or◌
only-first x = elim (dec_lt x 64) [
  | yes l ↦ in-word 1 x l ∙ on_one 0 x ∙ sym (rw (mem-zeros 0 x))
  | no g ↦ past_word 1 x (omega arith) ∙ sym (rw (mem-zeros 0 x) (ne_eqb x 0 (λ e. omega arith)))
]

-- ---- the rows of a word's bays

module _ (table set : List ℕ) (f : FirstWords table set) where
  pub row-joins : (w a : ℕ) → mem set a ≡ true → (b : ℕ) → b < span → mem (bit_or w (get_or table (a * words) 0) ∷ []) b ≡ mem (w ∷ []) b or mem_row table a b
  unfolding ◌or◌
  row-joins w a m b h = elim (dec_lt b 64) [
    | yes l ↦ in-word _ b l ∙ on_or w (get_or table (a * words) 0) b ∙ sym (ap₂ ◌or◌ (in-word w b l) (row_word table a b l))
    | no g ↦ past_word _ b (omega arith) ∙ sym (rw (past_word w b (omega arith)) (outside (omega arith)))
  ]
    where
      outside : 64 ≤ b → mem_row table a b ≡ false
      outside g = by_cases (mem_row table a b) (λ t. absurd (omega (arith, f.first a b m h t))) (λ e. e)

pub none_beside : (table : List ℕ) (ring : ℕ) → Beside table (ring ∷ []) (0 ∷ []) 0
none_beside table ring = beside_none table (ring ∷ []) (0 ∷ []) (mem-zeros 1)

-- past its word a set has no bay to go to
pub all-beside : (table : List ℕ) (ring next : ℕ) → Beside table (ring ∷ []) (next ∷ []) 64 → Beside table (ring ∷ []) (next ∷ []) span
all-beside table ring next s = beside-skip table (ring ∷ []) (next ∷ []) 64 span (omega arith) (λ k a b. past_word ring k a) s

-- rows of a yard that has no more bays than a word
pub first-words : (n : ℕ) (table : List ℕ) (ring : ℕ) → n * words ≤ span → Closed n table → Low n (ring ∷ []) → FirstWords table (ring ∷ [])
first-words n table ring few closed low = record {
  rows = λ a m. omega (arith, low-all a m, closed.rows);
  first = λ a b m h k. omega (arith, closed.inside a b (low-all a m) h k, few);
}
  where
    low-all : (a : Bay) → mem (ring ∷ []) a ≡ true → a < n
    low-all a m = elim (dec_lt a 64) [
      | yes l ↦ low a (omega arith) m
      | no g ↦ not-both m (past_word ring a (omega arith))
    ]

-- ---- the next ring

-- there is none where no bit is set
pub dry-word : (ring : ℕ) → ring ≡ 0 → Lowest (mem (ring ∷ [])) 0 span span
dry-word ring e = record {
  from = omega arith;
  upto = omega arith;
  hit = λ h. absurd (omega arith);
  before = λ i a b. rw e (mem-zeros 1 i);
}

pub settled-word : (next seen : ℕ) → seen < 2 ^ 64 → Settled (next ∷ []) (seen ∷ []) (bit_or seen (less_word next seen) ∷ []) (less_word next seen ∷ [])
unfolding ◌and◌ ◌or◌
settled-word next seen fits = record {
  ringed = λ b h. elim (dec_lt b 64) [
    | yes l ↦ in-word _ b l ∙ on-less next seen b l fits ∙ sym (ap₂ (λ p q. p and not q) (in-word next b l) (in-word seen b l))
    | no g ↦ past_word _ b (omega arith) ∙ sym (rw (past_word next b (omega arith)))
  ];
  all_seen = λ b h. elim (dec_lt b 64) [
    | yes l ↦ in-word _ b l ∙ on_or seen (less_word next seen) b ∙ sym (ap₂ ◌or◌ (in-word seen b l) (in-word (less_word next seen) b l))
    | no g ↦ past_word _ b (omega arith) ∙ sym (rw (past_word seen b (omega arith), past_word (less_word next seen) b (omega arith)))
  ];
}

-- ---- the lowest bit that is not set

module _ (seen : ℕ) (fits : seen < 2 ^ 64) where
  pub first_out : count_trailing_zeros 64 (2 ^ 64 - 1 - seen) < 64 → mem (seen ∷ []) (count_trailing_zeros 64 (2 ^ 64 - 1 - seen)) ≡ false
  first_out l =
      let some : 0 < 2 ^ 64 - 1 - seen = elim (dec_lt 0 (2 ^ 64 - 1 - seen)) [
        | yes h ↦ h
        | no h ↦ let z : 2 ^ 64 - 1 - seen ≡ 0 = omega arith in absurd (omega (arith, l, ap (count_trailing_zeros 64) z, trailing_of_zero 64))
      ] in
      let at : ℕ = count_trailing_zeros 64 (2 ^ 64 - 1 - seen) in
      let set = (on-lowest (2 ^ 64 - 1 - seen) some (omega arith)).1 in
      by_cases (on seen at)
      (λ e. not-both set (on-not seen at l fits ∙ ap not e))
      (λ e. in-word seen at l ∙ e)

  pub all_in : (k : ℕ) → k < 64 → k < count_trailing_zeros 64 (2 ^ 64 - 1 - seen) → mem (seen ∷ []) k ≡ true
  all_in k l h =
      by_cases (on seen k)
      (λ e. in-word seen k l ∙ e)
      (λ e. not-both (on-not seen k l fits ∙ ap not e) (on_below (2 ^ 64 - 1 - seen) k h))
