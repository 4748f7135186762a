-- The bays of a word are its lowest bit and the bays of what is left; word after word they are all new bays, rising.
-- Assumes nothing.
use mathlib.Core.Path.{◌≡◌, refl, sym, ap, ◌∙◌}
use mathlib.Core.Bool.{Bool, true, false, not}
use mathlib.Core.List.{List, [], ◌∷◌, ◌++◌, append-nil, append_assoc}
use Prim.Native.Nat.{ℕ, zero, suc, ◌+◌, ◌-◌, ◌*◌, ◌/◌, ◌%◌, ◌^◌, ◌≤◌, ◌<◌}
use native.Mathlib.Decide.{ℕ_discrete}
use native.Mathlib.Numerals.{add-one}
use native.Mathlib.Omega.{arith}
use lib.Bits.{bit_or, and_lt}
use lib.Count.{count_trailing_zeros}
use lib.ListN.{length, get_or, set, take, length-append}
use lib.Seq.{take-suc-set, get_or-set_same, get_or-set_other}
use Rattle.paper.specs.Basics.{◌and◌, ◌or◌, filter, elem, count_from, up_to, In, Out}
use Rattle.paper.proofs.Tests.{by_cases, not-both}
use Rattle.paper.proofs.Members.{In-nil, In-head, In-tail, In-append, Out-left, Out-right, out-cons, nothing-in-nil, filter-in, filter_passes, in-filter, count_low, count-high, in_count}
use Rattle.paper.proofs.Admitted.{same-filter}
use Rattle.words.specs.Sets.{on, mem, mem_row, words, span, less_word}
use Rattle.words.proofs.Bits.{later, later-off, later-on, on-lowest, on_below, on-zero, on_or, on-less}
use Rattle.words.proofs.Sets.{mem-row, count-split, or-false}
use Rattle.words.proofs.Besides.{equal-tests}
use Rattle.queue.proofs.Queueing.{seen-both}
use Rattle.queue.specs.Meeting.{places, in_word, is_new, new_in, new, Queued, Meets}

-- ## Counted numbers that pass

-- the lowest first, then the rest
first_passes : (q r : ℕ → Bool) (a k y : ℕ) → a ≤ y → y < a + k → q y ≡ true → ((z : ℕ) → a ≤ z → z < y → q z ≡ false) → ((z : ℕ) → a ≤ z → z ≤ y → r z ≡ false)
    → ((z : ℕ) → y < z → r z ≡ q z) → filter q (count_from a k) ≡ y ∷ filter r (count_from a k)
unfolding filter count_from
first_passes q r a zero y l h t f g e = absurd (omega arith)
first_passes q r a (suc k) y l h t f g e = elim (ℕ_discrete y a) [
  | yes o ↦
      let q-a : q a ≡ true = rw o at t in
      let r-a : r a ≡ false = g a (omega arith) (omega arith) in
      let rest = same-filter r q (count_from (suc a) k) (λ z i. let b = count_low (suc a) k z i in sym (e z (omega arith))) in
      rw (q-a, r-a, o, rest)
  | no o ↦
      let q-a : q a ≡ false = f a (omega arith) (omega arith) in
      let r-a : r a ≡ false = g a (omega arith) (omega arith) in
      rw (q-a, r-a) (first_passes q r (suc a) k y (omega arith) (omega arith) t (λ z b. f z (omega arith)) (λ z b. g z (omega arith)) e)
]

none_passes : (q : ℕ → Bool) (l : List ℕ) → ((z : ℕ) → In z l → q z ≡ false) → filter q l ≡ []
unfolding filter
none_passes q [] f = refl
none_passes q (y ∷ l) f = rw (f y (In-head y l)) (none_passes q l (λ z i. f z (In-tail z y l i)))

both-pass : (q : ℕ → Bool) (a b : List ℕ) → filter q (a ++ b) ≡ filter q a ++ filter q b
unfolding filter
both-pass q [] b = refl
both-pass q (x ∷ a) b = by_cases (q x) (λ e. rw (e, both-pass q a b)) (λ e. rw (e, both-pass q a b))

module _ (q : ℕ → Bool) where
  up_to-more : (a b : ℕ) → filter q (up_to (a + b)) ≡ filter q (up_to a) ++ filter q (count_from a b)
  up_to-more a b = let z : 0 + a ≡ a = omega arith in rw (count-split 0 a b, z) (both-pass q (up_to a) (count_from a b))

  pub passes-more : (i : ℕ) → filter q (up_to ((i + 1) * 64)) ≡ filter q (up_to (i * 64)) ++ filter q (places i)
  passes-more i = let e : (i + 1) * 64 ≡ i * 64 + 64 = omega arith in rw e (up_to-more (i * 64) 64)

  passes-most : (i : ℕ) → i < words → length (filter q (up_to (i * 64))) + length (filter q (places i)) ≤ length (filter q (up_to span))
  passes-most i h =
      let e : span ≡ (i + 1) * 64 + (span - (i + 1) * 64) = omega arith in
      let l = ap (λ (k : ℕ). length (filter q (up_to k))) e ∙ ap length (up_to-more ((i + 1) * 64) (span - (i + 1) * 64)) in
      omega (arith, l, length-append (filter q (up_to ((i + 1) * 64))) (filter q (count_from ((i + 1) * 64) (span - (i + 1) * 64))), ap length (passes-more i), length-append (filter q (up_to (i * 64))) (filter q (places i)))

-- ## The bays of one word

abbrev pub lowest : ℕ → ℕ → ℕ
lowest i w = i * 64 + count_trailing_zeros 64 w

module _ (i w : ℕ) (some : 0 < w) (fits : w < 2 ^ 64) where
  pub lowest-low : lowest i w < i * 64 + 64
  lowest-low = let l = (on-lowest w some fits).0 in omega arith

  pub word_first : in_word i w ≡ lowest i w ∷ in_word i (later w)
  word_first =
      let l = on-lowest w some fits in
      let e : lowest i w - i * 64 ≡ count_trailing_zeros 64 w = omega arith in
      first_passes (λ y. on w (y - i * 64)) (λ y. on (later w) (y - i * 64)) (i * 64) 64 (lowest i w) (omega arith) lowest-low (rw e l.1)
      (λ z a b. on_below w (z - i * 64) (omega arith))
      (λ z a b. later-off w some fits (z - i * 64) (omega arith))
      (λ z b. later-on w some fits (z - i * 64) (omega arith))

pub word_none : (i : ℕ) → in_word i 0 ≡ []
word_none i = none_passes (λ y. on 0 (y - i * 64)) (places i) (λ z k. on-zero (z - i * 64))

-- a bay is in its own word, by its own bit
in-word : (i w b : ℕ) → b / 64 ≡ i → elem b (in_word i w) ≡ on w (b % 64)
in-word i w b e =
    let k : b - i * 64 ≡ b % 64 = omega arith in
    equal-tests _ _
    (λ h. rw k at (filter_passes (λ y. on w (y - i * 64)) (places i) b h))
    (λ h. in-filter (λ y. on w (y - i * 64)) (places i) b (in_count (i * 64) 64 b (omega arith) (omega arith)) (rw k h))

out-word : (i w b : ℕ) → (b / 64 ≡ i → ⊥) → elem b (in_word i w) ≡ false
out-word i w b n =
    by_cases (elem b (in_word i w))
    (λ h.
    let j = filter-in (λ y. on w (y - i * 64)) (places i) b h in
    absurd (n (omega (arith, count_low (i * 64) 64 b j, count-high (i * 64) 64 b j))))
    (λ h. h)

-- the bays of the word join the set
pub word-joined : (ws : List ℕ) (i w : ℕ) → i < length ws → (b : ℕ) → mem (set ws i (bit_or (get_or ws i 0) w)) b ≡ mem ws b or elem b (in_word i w)
unfolding mem
word-joined ws i w h b = elim (ℕ_discrete (b / 64) i) [
  | yes e ↦ rw (in-word i w b e, e, get_or-set_same ws i (bit_or (get_or ws i 0) w) 0 h) (on_or (get_or ws i 0) w (b % 64))
  | no e ↦
      ap (λ (v : ℕ). on v (b % 64)) (get_or-set_other ws i (b / 64) (bit_or (get_or ws i 0) w) 0 e)
      ∙ sym (or-false (on (get_or ws (b / 64) 0) (b % 64)) (elem b (in_word i w)) (out-word i w b e))
]

-- a row's word less the seen ones holds what is new
pub word-new : (table seen : List ℕ) (a i : ℕ) → get_or seen i 0 < 2 ^ 64
    → in_word i (less_word (get_or table (a * words + i) 0) (get_or seen i 0)) ≡ new_in table seen a i
word-new table seen a i fits =
    same-filter (is_new table seen a) (λ y. on (less_word (get_or table (a * words + i) 0) (get_or seen i 0)) (y - i * 64)) (places i)
    (λ y k.
    let l = count_low (i * 64) 64 y k in
    let h = count-high (i * 64) 64 y k in
    let e : y - i * 64 ≡ y % 64 = omega arith in
    let d : y / 64 ≡ i = omega arith in
    let s : mem seen y ≡ on (get_or seen (y / 64) 0) (y % 64) = unfold mem in refl in
    rw (e, s, mem-row table a y, d) (on-less (get_or table (a * words + i) 0) (get_or seen i 0) (y % 64) (omega arith) fits))

-- ## A word's bays go to the queue's end

pub record Filling (i word a count : ℕ) (met₀ before₀ met before : List ℕ) (left c : ℕ) : Type 0 where
  pub fits : left < 2 ^ 64
  pub queue : take c met ++ in_word i left ≡ take count met₀ ++ in_word i word
  pub size : c + length (in_word i left) ≡ count + length (in_word i word)
  pub within : (y : ℕ) → In y (in_word i left) → In y (in_word i word)
  pub parents : (y : ℕ) → In y (in_word i word) → Out y (in_word i left) → get_or before y 0 ≡ a
  pub others : (y : ℕ) → Out y (in_word i word) → get_or before y 0 ≡ get_or before₀ y 0

pub filling-first : (i word a count : ℕ) (met before : List ℕ) → word < 2 ^ 64 → Filling i word a count met before met before word count
filling-first i word a count met before h = record {
  fits = h;
  queue = refl;
  size = refl;
  within = λ y k. k;
  parents = λ y k o. not-both k o;
  others = λ y o. refl;
}

module _ {i word a count : ℕ} {met₀ before₀ met before : List ℕ} {left c : ℕ} (g : Filling i word a count met₀ before₀ met before left c) where
  pub filling-room : {room : ℕ} → 0 < left → count + length (in_word i word) ≤ room → c < room
  filling-room some h = let e = ap length (word_first i left some g.fits) in omega (arith, e, g.size)

  pub filling-less : 0 < left → length (in_word i (later left)) < length (in_word i left)
  filling-less some = let e = ap length (word_first i left some g.fits) in omega arith

  pub filling-more : 0 < left → i < words → length before ≡ span → c < length met
      → Filling i word a count met₀ before₀ (set met c (lowest i left)) (set before (lowest i left) a) (later left) (c + 1)
  filling-more some low wide h =
      let y : ℕ = lowest i left in
      let rest : List ℕ = in_word i (later left) in
      let e : in_word i left ≡ y ∷ rest = word_first i left some g.fits in
      let there : y < length before = omega (arith, lowest-low i left some g.fits) in
      let y-in : In y (in_word i word) = g.within y (rw e (In-head y rest)) in
      record {
        fits = and_lt 64 left (left - 1) g.fits (omega (arith, g.fits));
        queue = rw (add-one, take-suc-set met c y h, append_assoc) (rw e at g.queue);
        size = omega (arith, ap length e, g.size);
        within = λ z k. g.within z (rw e (In-tail z y rest k));
        parents = λ z k o. elim (ℕ_discrete z y) [
          | yes q ↦ rw (q, get_or-set_same before y a 0 there)
          | no q ↦ get_or-set_other before y z a 0 q ∙ g.parents z k (rw e (out-cons z y rest q o))
        ];
        others = λ z o. get_or-set_other before y z a 0 (λ q. not-both (rw (← q) at y-in) o) ∙ g.others z o;
      }

  pub filling-all : left ≡ 0 → Queued (in_word i word) a count met₀ before₀ met before c
  filling-all e =
      let none : in_word i left ≡ [] = rw e (word_none i) in
      record {
        size = omega (arith, g.size, ap length none);
        queue = sym (append-nil (take c met)) ∙ rw none at g.queue;
        parents = λ y k. g.parents y k (rw none (nothing-in-nil y));
        others = g.others;
      }

-- ## Word after word

module _ (a : ℕ) (met before : List ℕ) where
  pub queued-none : (count : ℕ) → Queued [] a count met before met before count
  queued-none count = record {
    size = omega arith;
    queue = sym (append-nil (take count met));
    parents = λ y k. In-nil y k;
    others = λ y o. refl;
  }

pub meets-none : (a count : ℕ) (seen met before : List ℕ) → Meets [] a count seen met before seen met before count
meets-none a count seen met before = record { queued = queued-none a met before count; seeing = λ b h. sym (or-false _ _ (nothing-in-nil b)) }

pub meets-then : {f g : List ℕ} {a count : ℕ} {seen met before seen' met' before' seen'' met'' before'' : List ℕ} {c r : ℕ}
    → Meets f a count seen met before seen' met' before' c → Meets g a c seen' met' before' seen'' met'' before'' r
    → Meets (f ++ g) a count seen met before seen'' met'' before'' r
meets-then {f} {g} {count = count} {met = met} p q = record {
  queued = record {
    size = omega (arith, p.queued.size, q.queued.size, length-append f g);
    queue = q.queued.queue ∙ rw p.queued.queue (append_assoc (take count met) f g);
    parents = λ y k. by_cases (elem y g)
        (λ i. q.queued.parents y i)
        (λ o. q.queued.others y o ∙ p.queued.parents y (In-append y f g k (λ i. i) (λ i. not-both i o)));
    others = λ y o. q.queued.others y (Out-right y f g o) ∙ p.queued.others y (Out-left y f g o);
  };
  seeing = λ b h. q.seeing b h ∙ rw (p.seeing b h) (seen-both _ b f g);
}

module _ (table seen : List ℕ) (a i : ℕ) (fits : get_or seen i 0 < 2 ^ 64) where
  -- what of the row's word is not seen
  abbrev pub unseen : ℕ
  unseen = less_word (get_or table (a * words + i) 0) (get_or seen i 0)

  pub word-met-none : unseen ≡ 0 → (count : ℕ) (met before : List ℕ) → Meets (new_in table seen a i) a count seen met before seen met before count
  word-met-none e count met before =
      let none : new_in table seen a i ≡ [] = sym (word-new table seen a i fits) ∙ rw e (word_none i) in
      rw none (meets-none a count seen met before)

  pub word-met : (count : ℕ) (met before met' before' : List ℕ) (r : ℕ) → i < length seen → Queued (in_word i unseen) a count met before met' before' r
      → Meets (new_in table seen a i) a count seen met before (set seen i (bit_or (get_or seen i 0) unseen)) met' before' r
  word-met count met before met' before' r h q = rw (← word-new table seen a i fits) (record { queued = q; seeing = λ b k. word-joined seen i unseen h b })

-- what is new in the words below i
abbrev pub new_below : List ℕ → List ℕ → ℕ → ℕ → List ℕ
new_below table seen a i = filter (is_new table seen a) (up_to (i * 64))

pub meeting-none : (table : List ℕ) (a count : ℕ) (seen met before : List ℕ) → Meets (new_below table seen a 0) a count seen met before seen met before count
unfolding filter count_from
meeting-none table a count seen met before = meets-none a count seen met before

module _ (table : List ℕ) (i : ℕ) {a count : ℕ} {seen₀ met₀ before₀ seen met before : List ℕ} {c : ℕ}
    (p : Meets (new_below table seen₀ a i) a count seen₀ met₀ before₀ seen met before c) (low : i < words) where
  -- bays of the words below are none of word i
  new-same : new_in table seen a i ≡ filter (is_new table seen₀ a) (places i)
  new-same =
      same-filter (is_new table seen₀ a) (is_new table seen a) (places i)
      (λ y k.
      let l = count_low (i * 64) 64 y k in
      let h = count-high (i * 64) 64 y k in
      let out : Out y (new_below table seen₀ a i) =
      by_cases (elem y (new_below table seen₀ a i))
      (λ j. let z = count-high 0 (i * 64) y (filter-in (is_new table seen₀ a) (up_to (i * 64)) y j) in absurd (omega arith))
      (λ o. o) in
      rw (p.seeing y (omega arith)) (ap (λ (t : Bool). mem_row table a y and not t) (or-false _ _ out)))

  pub meeting-room : {room : ℕ} → count + length (new table seen₀ a) ≤ room → c + length (new_in table seen a i) ≤ room
  meeting-room h = omega (arith, p.queued.size, passes-most (is_new table seen₀ a) i low, ap length new-same)

  pub meeting-more : {seen' met' before' : List ℕ} {r : ℕ} → Meets (new_in table seen a i) a c seen met before seen' met' before' r
      → Meets (new_below table seen₀ a (i + 1)) a count seen₀ met₀ before₀ seen' met' before' r
  meeting-more q = rw (passes-more (is_new table seen₀ a) i) (meets-then p (rw new-same at q))
