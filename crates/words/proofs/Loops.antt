-- What a loop over the words has done, and what it has left; done for all words, it is done for all bays.
use mathlib.Core.Path.{◌≡◌, refl, sym, ap, ◌∙◌}
use mathlib.Core.Bool.{Bool, false, not}
use mathlib.Core.List.{List}
use Prim.Native.Nat.{ℕ, ◌+◌, ◌-◌, ◌*◌, ◌/◌, ◌%◌, ◌^◌, ◌≤◌, ◌<◌}
use native.Mathlib.Decide.{ℕ_discrete, dec_lt}
use native.Mathlib.Omega.{arith}
use lib.Bits.{bit_and, bit_or}
use lib.Count.{count_trailing_zeros}
use lib.Dec.{eqb}
use lib.ListN.{length, get_or, set}
use lib.Seq.{get_or-set_same, get_or-set_other}
use borrow.Author.Tests.{ne_eqb}
use Rattle.paper.specs.Basics.{◌and◌, ◌or◌}
use Rattle.paper.proofs.Fields.{and_assoc}
use Rattle.paper.proofs.Tests.{or-neither}
use Rattle.words.specs.Sets.{on, mem, mem_row, words, span, bit_of, less_word, Lowest, Settled, Kept}
use Rattle.words.proofs.Bits.{on_or, on_and, on-less, on-zero, on-lowest, on_below, on-shr}
use Rattle.words.proofs.Sets.{mem-out, mem-row, word-bit, on_bit, bit-fits}

-- the words below i are f's; those from i on are f's
pub record Done (l : List ℕ) (i : ℕ) (f : ℕ → ℕ) : Type 0 where
  pub at : (k : ℕ) → k < i → get_or l k 0 ≡ f k

pub record Left (l : List ℕ) (i : ℕ) (f : ℕ → ℕ) : Type 0 where
  pub at : (k : ℕ) → i ≤ k → get_or l k 0 ≡ f k

pub done_none : (l : List ℕ) (f : ℕ → ℕ) → Done l 0 f
done_none l f = record { at = λ k h. absurd (omega arith) }

pub done_more : (l : List ℕ) (i v : ℕ) (f : ℕ → ℕ) → Done l i f → i < length l → v ≡ f i → Done (set l i v) (i + 1) f
done_more l i v f d h e = record {
  at = λ k m. elim (ℕ_discrete k i) [
    | yes q ↦ rw (q, get_or-set_same l i v 0 h) e
    | no q ↦ get_or-set_other l i k v 0 q ∙ d.at k (omega arith)
  ];
}

pub left-all : (l : List ℕ) → Left l 0 (λ k. get_or l k 0)
left-all l = record { at = λ k h. refl }

pub left-more : (l : List ℕ) (i v : ℕ) (f : ℕ → ℕ) → Left l i f → Left (set l i v) (i + 1) f
left-more l i v f d = record { at = λ k m. get_or-set_other l i k v 0 (λ q. omega arith) ∙ d.at k (omega arith) }

-- ---- from the words to the bays

-- the words below i fit a word
pub record Fit (l : List ℕ) (i : ℕ) : Type 0 where
  pub at : (k : ℕ) → k < i → get_or l k 0 < 2 ^ 64

pub fit_none : (l : List ℕ) → Fit l 0
fit_none l = record { at = λ k h. absurd (omega arith) }

pub fit-more : (l : List ℕ) (i : ℕ) → Fit l i → get_or l i 0 < 2 ^ 64 → Fit l (i + 1)
fit-more l i f h = record { at = λ k m. elim (ℕ_discrete k i) [ yes q ↦ rw q h | no q ↦ f.at k (omega arith) ] }

-- what each word says of its bays is said of all, as past the last word no bay is in the set
by-words : (c : List ℕ) (i : ℕ) (f : ℕ → ℕ) (g : ℕ → Bool) → Done c i f → length c ≤ i
    → ((x : ℕ) → x / 64 < i → on (f (x / 64)) (x % 64) ≡ g x) → ((x : ℕ) → 64 * length c ≤ x → g x ≡ false)
    → (x : ℕ) → mem c x ≡ g x
by-words c i f g d l says past x = elim (dec_lt (x / 64) (length c)) [
  | yes h ↦ unfold mem in rw (d.at (x / 64) (omega arith)) (says x (omega arith))
  | no h ↦ mem-out c x (omega arith) ∙ sym (past x (omega arith))
]

pub none-set : (ws : List ℕ) (i : ℕ) → Done ws i (λ k. 0) → length ws ≤ i → (x : ℕ) → mem ws x ≡ false
none-set ws i d l = by-words ws i (λ k. 0) (λ x. false) d l (λ x h. on-zero (x % 64)) (λ x h. refl)

module _ (a b c : List ℕ) (i : ℕ) where
  pub both-set : Done c i (λ k. bit_or (get_or a k 0) (get_or b k 0)) → (x : ℕ) → x / 64 < i → mem c x ≡ mem a x or mem b x
  unfolding mem
  both-set d x h = rw (d.at (x / 64) h) (on_or _ _ (x % 64))

  pub rest-set : Done c i (λ k. less_word (get_or a k 0) (get_or b k 0)) → Fit b i → (x : ℕ) → x / 64 < i
      → mem c x ≡ mem a x and not (mem b x)
  unfolding mem
  rest-set d f x h = rw (d.at (x / 64) h) (on-less _ _ (x % 64) (omega arith) (f.at (x / 64) h))

  -- for sets of equal length, past whose words no bay is
  pub minus-all : length c ≤ i → length b ≡ length a → length c ≡ length a → Done c i (λ k. less_word (get_or a k 0) (get_or b k 0)) → Fit b i
      → (x : ℕ) → mem c x ≡ mem a x and not (mem b x)
  minus-all all same kept d f x = elim (dec_lt (x / 64) i) [
    | yes h ↦ rest-set d f x h
    | no h ↦ rw (mem-out a x (omega arith), mem-out c x (omega arith)) (unfold ◌and◌ in refl)
  ]

-- ---- one bay of a set of WORDS words, of which all are stored

past-bay : (x y : ℕ) → x < span → span ≤ y → eqb y x ≡ false
past-bay x y h k = ne_eqb y x (λ e. absurd (omega arith))

module _ (c : List ℕ) (i : ℕ) (all : words ≤ i) (kept : length c ≡ words) where
  pub alone-all : (x : ℕ) → x < span → Done c i (bit_of x) → (y : ℕ) → mem c y ≡ eqb y x
  alone-all x h d = by-words c i (bit_of x) (λ y. eqb y x) d (omega arith) (λ y l. on_bit x y) (λ y l. past-bay x y h (omega arith))

  module _ (a : List ℕ) (same : length a ≡ words) where
    pub joined-all : (x : ℕ) → x < span → Done c i (λ k. bit_or (get_or a k 0) (bit_of x k)) → (y : ℕ) → mem c y ≡ mem a y or eqb y x
    joined-all x h d =
        by-words c i (λ k. bit_or (get_or a k 0) (bit_of x k)) (λ y. mem a y or eqb y x) d (omega arith)
        (λ y l. unfold mem in rw (on_or, on_bit))
        (λ y l. or-neither _ _ (mem-out a y (omega arith)) (past-bay x y h (omega arith)))

    pub replaced-all : (x y : ℕ) → x < span → y < span → Done c i (λ k. bit_or (less_word (get_or a k 0) (bit_of x k)) (bit_of y k))
        → (b : ℕ) → mem c b ≡ (mem a b and not (eqb b x)) or eqb b y
    replaced-all x y h k d =
        by-words c i (λ k. bit_or (less_word (get_or a k 0) (bit_of x k)) (bit_of y k)) (λ b. (mem a b and not (eqb b x)) or eqb b y) d (omega arith)
        (λ b l. unfold mem in rw (on_or, on_bit, on-less _ _ (b % 64) (omega arith) (bit-fits x (b / 64)), on_bit))
        (λ b l. or-neither _ _ (unfold ◌and◌ in rw (mem-out a b (omega arith))) (past-bay y b k (omega arith)))

pub row-joined : (acc₀ table acc : List ℕ) (a i : ℕ) → words ≤ i
    → Done acc i (λ k. bit_or (get_or acc₀ k 0) (get_or table (a * words + k) 0))
    → (b : ℕ) → b < span → mem acc b ≡ mem acc₀ b or mem_row table a b
row-joined acc₀ table acc a i l d b h =
    rw mem-row (unfold mem in rw (d.at (b / 64) (omega arith)) (on_or _ _ (b % 64)))

pub settled : (next seen₀ seen ring : List ℕ) (i : ℕ) → words ≤ i
    → Done ring i (λ k. less_word (get_or next k 0) (get_or seen₀ k 0)) → Done seen i (λ k. bit_or (get_or seen₀ k 0) (less_word (get_or next k 0) (get_or seen₀ k 0)))
    → Fit seen₀ i → Settled next seen₀ seen ring
settled next seen₀ seen ring i l r s f = record {
  ringed = λ b h. rest-set next seen₀ ring i r f b (omega arith);
  all_seen = λ b h. both-set seen₀ ring seen i
      (record { at = λ k m. s.at k m ∙ ap (λ (n : ℕ). bit_or (get_or seen₀ k 0) n) (sym (r.at k m)) }) b (omega arith);
}

-- ---- one row of a table is written

pub record Writing (rows₀ : List ℕ) (d : ℕ) (ring rows : List ℕ) (i : ℕ) : Type 0 where
  pub written : (k : ℕ) → k < i → get_or rows (d * words + k) 0 ≡ get_or ring k 0
  pub others : (e k : ℕ) → (e ≡ d → ⊥) → k < words → get_or rows (e * words + k) 0 ≡ get_or rows₀ (e * words + k) 0

pub writing-none : (rows : List ℕ) (d : ℕ) (ring : List ℕ) → Writing rows d ring rows 0
writing-none rows d ring = record { written = λ k h. absurd (omega arith); others = λ e k n h. refl }

pub writing_more : (rows₀ : List ℕ) (d : ℕ) (ring rows : List ℕ) (i : ℕ) → Writing rows₀ d ring rows i → i < words
    → d * words + words ≤ length rows → Writing rows₀ d ring (set rows (d * words + i) (get_or ring i 0)) (i + 1)
writing_more rows₀ d ring rows i w h l = record {
  written = λ k m. elim (ℕ_discrete k i) [
    | yes q ↦ rw (q, get_or-set_same rows (d * words + i) (get_or ring i 0) 0 (omega arith))
    | no q ↦
        get_or-set_other rows (d * words + i) (d * words + k) (get_or ring i 0) 0 (λ z. q (omega arith)) ∙ w.written k (omega arith)
  ];
  others = λ e k n m.
      get_or-set_other rows (d * words + i) (e * words + k) (get_or ring i 0) 0 (λ z. n (omega arith)) ∙ w.others e k n m;
}

pub writing-all : (rows₀ : List ℕ) (d : ℕ) (ring rows : List ℕ) (i : ℕ) → Writing rows₀ d ring rows i → words ≤ i → Kept rows₀ d ring rows
writing-all rows₀ d ring rows i w h = record {
  row = λ b l. mem-row rows d b ∙ ap (λ (v : ℕ). on v (b % 64)) (w.written (b / 64) (omega arith)) ∙ unfold mem in refl;
  others = λ e b n l.
      mem-row rows e b ∙ ap (λ (v : ℕ). on v (b % 64)) (w.others e (b / 64) n (omega arith)) ∙ sym (mem-row rows₀ e b);
}

-- ---- the search for the lowest, word by word

module _ (f : ℕ → Bool) (a i w s : ℕ) where
  -- a word with a bit set holds the lowest
  pub lowest-here : (m : ℕ) → a ≤ i * 64 + s → s < 64 → i * 64 + 64 ≤ m → 0 < w → w < 2 ^ 64
      → ((k : ℕ) → s + k < 64 → f (i * 64 + s + k) ≡ on w k) → count_trailing_zeros 64 w < 64 - s
      → ((k : ℕ) → a ≤ k → k < i * 64 + s → f k ≡ false)
      → Lowest f a m (i * 64 + s + count_trailing_zeros 64 w)
  lowest-here m h hs hm p l e t b =
      let z = on-lowest w p l in
      record {
        from = omega arith;
        upto = omega arith;
        hit = λ q. e (count_trailing_zeros 64 w) (omega arith) ∙ z.1;
        before = λ k g q. elim (dec_lt k (i * 64 + s)) [
          | yes u ↦ b k g u
          | no u ↦
              let j : ℕ = k - (i * 64 + s) in
              let same : i * 64 + s + j ≡ k = omega arith in
              ap f (sym same) ∙ e j (omega arith) ∙ on_below w j (omega arith)
        ];
      }

  -- a word with no bit set holds none
  pub lowest-on : s < 64 → w ≡ 0 → ((k : ℕ) → s + k < 64 → f (i * 64 + s + k) ≡ on w k)
      → ((k : ℕ) → a ≤ k → k < i * 64 + s → f k ≡ false)
      → (k : ℕ) → a ≤ k → k < (i + 1) * 64 → f k ≡ false
  lowest-on hs z e b k g q = elim (dec_lt k (i * 64 + s)) [
    | yes u ↦ b k g u
    | no u ↦
        let j : ℕ = k - (i * 64 + s) in
        let same : i * 64 + s + j ≡ k = omega arith in
        ap f (sym same) ∙ e j (omega arith) ∙ rw z (on-zero j)
  ]

-- the same for a search from 0 on, which begins at each word's first bit
pub lowest-whole : (f : ℕ → Bool) (i w m : ℕ) → i * 64 + 64 ≤ m → 0 < w → w < 2 ^ 64
    → ((k : ℕ) → 0 + k < 64 → f (i * 64 + 0 + k) ≡ on w k) → ((k : ℕ) → 0 ≤ k → k < i * 64 → f k ≡ false)
    → Lowest f 0 m (i * 64 + count_trailing_zeros 64 w)
lowest-whole f i w m hm p l e b =
    let z : i * 64 + 0 ≡ i * 64 = omega arith in
    let r : Lowest f 0 m (i * 64 + 0 + count_trailing_zeros 64 w) =
    lowest-here f 0 i w 0 m (omega arith) (omega arith) hm p l e (on-lowest w p l).0 (λ k g q. b k g (omega arith)) in
    rw z at r

pub common-word : (s : List ℕ) (a : ℕ) (t : List ℕ) (b i k : ℕ) → 0 + k < 64
    → mem_row s a (i * 64 + 0 + k) and mem_row t b (i * 64 + 0 + k)
    ≡ on (bit_and (get_or s (a * words + i) 0) (get_or t (b * words + i) 0)) k
common-word s a t b i k h =
    let x : ℕ = i * 64 + 0 + k in
    let q : x / 64 ≡ i = omega arith in
    let r : x % 64 ≡ k = omega arith in
    rw (mem-row s a x, mem-row t b x, q, r, on_and)

pub free-word : (s : List ℕ) (a : ℕ) (t u : List ℕ) (i k : ℕ) → 0 + k < 64 → get_or u i 0 < 2 ^ 64
    → mem_row s a (i * 64 + 0 + k) and (mem t (i * 64 + 0 + k) and not (mem u (i * 64 + 0 + k)))
    ≡ on (less_word (bit_and (get_or s (a * words + i) 0) (get_or t i 0)) (get_or u i 0)) k
free-word s a t u i k h l =
    let x : ℕ = i * 64 + 0 + k in
    let e : x ≡ 64 * i + k = omega arith in
    let q : x / 64 ≡ i = omega arith in
    let r : x % 64 ≡ k = omega arith in
    let mt : mem t x ≡ on (get_or t i 0) k = ap (mem t) e ∙ word-bit t i k (omega arith) in
    let mu : mem u x ≡ on (get_or u i 0) k = ap (mem u) e ∙ word-bit u i k (omega arith) in
    let w = get_or s (a * words + i) 0 in
    rw (mem-row s a x, q, r, mt, mu)
    (sym (on-less (bit_and w (get_or t i 0)) (get_or u i 0) k (omega arith) l ∙ ap (λ (z : Bool). z and not (on (get_or u i 0) k)) (on_and w (get_or t i 0) k) ∙ and_assoc _ _ _))

pub next_word : (ws : List ℕ) (i s k : ℕ) → s < 64 → s + k < 64 → mem ws (i * 64 + s + k) ≡ on (get_or ws i 0 / 2 ^ s) k
unfolding mem
next_word ws i s k hs h =
    let x : ℕ = i * 64 + s + k in
    let q : x / 64 ≡ i = omega arith in
    let r : x % 64 ≡ s + k = omega arith in
    rw (q, r) (sym (on-shr (get_or ws i 0) s k))
