-- An action's words are the pieces between spaces, and they are cut off one by one; what the words say is what the paper reads.
use Rattle.std.proofs.Common.{None, Some}
use Rattle.std.specs.Prelude.{if◌then◌else◌}
use mathlib.Core.Path.{◌≡◌, refl, sym, ◌∙◌, ap}
use mathlib.Core.Bool.{true, false}
use mathlib.Core.List.{List, [], ◌∷◌, append_assoc, append-nil}
use mathlib.Core.Option.{Option, none, some}
use Prim.Native.Nat.{ℕ, suc, ◌+◌, ◌≤◌, ◌<◌}
use native.Mathlib.Omega.{arith}
use native.Mathlib.Numerals.{add-one}
use lib.Dec.{eqb, leb, ltb}
use lib.ListN.{length, get_or, take, drop, drop_of_length-le}
use lib.Seq.{drop-cons, take-suc, take_all}
use borrow.Author.Tests.{eq-eqb, ne_eqb, ltb-true, ltb-false}
use Rattle.paper.specs.Basics.{◌and◌, ◌>>=◌}
use Rattle.paper.specs.Yard.{Crossing, crossing, pack}
use Rattle.paper.specs.Text.{Text, text, SPACE, join, split, same}
use Rattle.paper.specs.Print.{number_after, read_action}
use Rattle.paper.proofs.Tests.{by_cases, by-option}
use Rattle.paper.proofs.Fields.{and-false}
use Rattle.laws.proofs.Lines.{attach}
use Rattle.paper.proofs.Stepping.{split-some}
use Rattle.line_entries.specs.Entries.{most_carrier, most_bay, fits, entry_of, plan_entry}
use Rattle.line_entries.specs.Steps.{capped, Cut, to_entry, left, from_entry, moved, carrier_entry, words_entry}
use Rattle.line_entries.specs.declared.Entry.TheVariants.{Number, Comment, Broken}
use Rattle.line_entries.specs.Figure.{Figure}
use Rattle.line_entries.proofs.Numbers.{rest, rest-is}

-- ## Cutting

module _ (t : ℕ) (l : Text) where
  -- no such byte among the first i
  abbrev pub Passed : ℕ → Type 0
  Passed i = split t l ≡ attach (take i l) (split t (drop i l))

  pub passed_none : Passed 0
  passed_none = let s = split-some t l in s.2 ∙ sym (rw s.2)

  module _ (i : ℕ) (more : i < length l) (so_far : Passed i) where
    rest-here : drop i l ≡ get_or l i 0 ∷ drop (suc i) l
    rest-here = drop-cons l i 0 more

    pub passed-one : (get_or l i 0 ≡ t → ⊥) → Passed (i + 1)
    unfolding split join
    passed-one n =
        let s = split-some t (drop (suc i) l) in
        rw (add-one i)
        (so_far
        ∙ ap (λ r. attach (take i l) (split t r)) rest-here
        ∙ rw (ne_eqb (get_or l i 0) t n, s.2, take-suc l i 0 more, append_assoc (take i l) (get_or l i 0 ∷ []) s.0))

    pub cut-found : get_or l i 0 ≡ t → Cut t l i
    unfolding split
    cut-found e = record {
      within = omega arith;
      found = λ h. so_far ∙ ap (λ r. attach (take i l) (split t r)) rest-here ∙ rw (eq-eqb (get_or l i 0) t e, append-nil (take i l), add-one i);
      whole = λ h. absurd (omega arith);
    }

  pub cut-none : (i : ℕ) → i ≤ length l → length l ≤ i → Passed i → Cut t l i
  unfolding split
  cut-none i k h so_far = record {
    within = k;
    found = λ m. absurd (omega arith);
    whole = λ m. so_far ∙ rw (drop_of_length-le l {i = i} h, take_all i l h, append-nil l);
  }

-- ## The words, from the last on
module _ (l : Text) (p : ℕ) (c : Cut SPACE l p) where
  -- the first word and the rest, which has a word too
  two-words : p < length l → (v : Text) × (ws : List Text) × (split SPACE l ≡ take p l ∷ v ∷ ws) × (split SPACE (rest l (p + 1)) ≡ v ∷ ws)
  two-words h =
      let s = split-some SPACE (drop (p + 1) l) in
      (s.0, s.1, c.found h ∙ ap (λ ws. take p l ∷ ws) s.2, ap (split SPACE) (rest-is l (p + 1)) ∙ s.2)

  module _ (carrier from : ℕ) where
    pub to-more : p < length l → Broken ≡ to_entry carrier from (split SPACE l)
    to-more h = let w = two-words h in rw w.2

    module _ (h : length l ≤ p) where
      pub to-no : None ≡ capped most_bay (number_after 98 l) → Broken ≡ to_entry carrier from (split SPACE l)
      to-no e = rw (c.whole h, ← e)

      pub to-yes : (b : ℕ) → Some b ≡ capped most_bay (number_after 98 l) → Number (pack (crossing carrier from b)) ≡ to_entry carrier from (split SPACE l)
      to-yes b e = rw (c.whole h, ← e)

  module _ (carrier : ℕ) where
    pub from-short : length l ≤ p → Broken ≡ from_entry carrier (split SPACE l)
    from-short h = rw (c.whole h)

    pub from-no : p < length l → None ≡ capped most_bay (number_after 98 (take p l)) → Broken ≡ from_entry carrier (split SPACE l)
    from-no h e = let w = two-words h in rw (w.2, ← e)

    pub from-yes : p < length l → (a : ℕ) → Some a ≡ capped most_bay (number_after 98 (take p l)) → to_entry carrier a (split SPACE (rest l (p + 1))) ≡ from_entry carrier (split SPACE l)
    from-yes h a e = let w = two-words h in rw (w.2, w.3, ← e)

  pub carrier-short : length l ≤ p → Broken ≡ carrier_entry (split SPACE l)
  carrier-short h = rw (c.whole h)

  pub carrier-no : p < length l → None ≡ capped most_carrier (number_after 99 (take p l)) → Broken ≡ carrier_entry (split SPACE l)
  carrier-no h e = let w = two-words h in rw (w.2, ← e)

  pub carrier-yes : p < length l → (a : ℕ) → Some a ≡ capped most_carrier (number_after 99 (take p l)) → from_entry a (split SPACE (rest l (p + 1))) ≡ carrier_entry (split SPACE l)
  carrier-yes h a e = let w = two-words h in rw (w.2, w.3, ← e)

  pub words-short : length l ≤ p → Broken ≡ words_entry (split SPACE l)
  words-short h = rw (c.whole h)

  pub words-no : p < length l → same (take p l) (text "(move") ≡ false → Broken ≡ words_entry (split SPACE l)
  words-no h e = let w = two-words h in rw (w.2, e)

  pub words-yes : p < length l → same (take p l) (text "(move") ≡ true → carrier_entry (split SPACE (rest l (p + 1))) ≡ words_entry (split SPACE l)
  words-yes h e = let w = two-words h in rw (w.2, w.3, e)

-- ## The paper's reading
-- the three numbers of four words
abbrev three : List Text → Option Crossing
three ws = number_after 99 (get_or ws 1 []) >>= (λ c. number_after 98 (get_or ws 2 []) >>= (λ a. number_after 98 (get_or ws 3 []) >>= (λ b. some (crossing c a b))))

-- the numbers one by one are all of them at once
numbers_as : (w c a b : Text) → carrier_entry (c ∷ a ∷ b ∷ []) ≡ entry_of (three (w ∷ c ∷ a ∷ b ∷ []))
unfolding entry_of fits ◌and◌
numbers_as w c a b =
    by-option (number_after 99 c) (λ e. simp e)
    (λ x e. by_cases (leb x most_carrier)
    (λ i. by-option (number_after 98 a) (λ f. simp (e, i, f))
    (λ y f. by_cases (leb y most_bay)
    (λ j. by-option (number_after 98 b) (λ g. simp (e, i, f, j, g))
    (λ z g. by_cases (leb z most_bay) (λ k. simp (e, i, f, j, g, k)) (λ k. simp (e, i, f, j, g, k))))
    (λ j. by-option (number_after 98 b) (λ g. simp (e, i, f, j, g)) (λ z g. simp (e, i, f, j, g)))))
    (λ i. by-option (number_after 98 a) (λ f. simp (e, i, f))
    (λ y f. by-option (number_after 98 b) (λ g. simp (e, i, f, g)) (λ z g. simp (e, i, f, g)))))

-- four words, and no other number of them
abbrev if_four : List Text → Option Crossing
if_four ws = if eqb (length ws) 4 and same (get_or ws 0 []) (text "(move") then three ws else none

entry-none : entry_of none ≡ Broken
unfolding entry_of
entry-none = refl

few : (a : Text) (f : Figure) → moved f (a ∷ []) ≡ Broken
few a None = refl
few a (Some x) = refl

more_left : (b d : Text) (ws : List Text) (x : ℕ) (g : Figure) → left x g (b ∷ d ∷ ws) ≡ Broken
more_left b d ws x None = refl
more_left b d ws x (Some y) = refl

many : (a b d : Text) (ws : List Text) (f : Figure) → moved f (a ∷ b ∷ d ∷ ws) ≡ Broken
many a b d ws None = refl
many a b d ws (Some x) = more_left b d ws x (capped most_bay (number_after 98 a))

words-as : (ws : List Text) → words_entry ws ≡ entry_of (if_four ws)
unfolding ◌and◌
words-as [] = sym entry-none
words-as (w ∷ []) = sym entry-none
words-as (w ∷ c ∷ []) = by_cases (same w (text "(move")) (λ e. rw e (sym entry-none)) (λ e. rw e (sym entry-none))
words-as (w ∷ c ∷ a ∷ []) =
    by_cases (same w (text "(move"))
    (λ e. rw e (few a (capped most_carrier (number_after 99 c)) ∙ sym entry-none))
    (λ e. rw e (sym entry-none))
words-as (w ∷ c ∷ a ∷ b ∷ []) =
    by_cases (same w (text "(move")) (λ e. rw e (numbers_as w c a b)) (λ e. rw e (sym entry-none))
words-as (w ∷ c ∷ a ∷ b ∷ d ∷ ws) =
    by_cases (same w (text "(move"))
    (λ e. rw (e, ne_eqb (length (w ∷ c ∷ a ∷ b ∷ d ∷ ws)) 4 (λ q. omega arith)) (many a b d ws (capped most_carrier (number_after 99 c)) ∙ sym entry-none))
    (λ e. rw (e, and-false (eqb (length (w ∷ c ∷ a ∷ b ∷ d ∷ ws)) 4)) (sym entry-none))

-- the pieces between closing brackets: the words, and nothing behind
abbrev read_pieces : List Text → Option Crossing
read_pieces ps =
    let ws = split SPACE (get_or ps 0 []) in
    if eqb (length ps) 2 and same (get_or ps 1 []) [] and eqb (length ws) 4 and same (get_or ws 0 []) (text "(move") then three ws else none

pieces_are : (l : Text) → read_action l ≡ read_pieces (split 41 l)
unfolding read_action
pieces_are l = refl

pieces-one : (h : Text) → read_pieces (h ∷ []) ≡ none
unfolding ◌and◌
pieces-one h = refl

pieces_more : (h a x : Text) (xs : List Text) → read_pieces (h ∷ a ∷ x ∷ xs) ≡ none
unfolding ◌and◌
pieces_more h a x xs = rw (ne_eqb (length (h ∷ a ∷ x ∷ xs)) 2 (λ e. omega arith))

pieces-tail : (h x : Text) (b : ℕ) (xs : List Text) → read_pieces (h ∷ (b ∷ x) ∷ xs) ≡ none
unfolding ◌and◌ same
pieces-tail h x b xs = rw (and-false (eqb (length (h ∷ (b ∷ x) ∷ xs)) 2))

pieces-behind : (h r : Text) (b : ℕ) → read_pieces (h ∷ split 41 (b ∷ r)) ≡ none
unfolding split join
pieces-behind h r b =
    let s = split-some 41 r in
    by_cases (eqb b 41)
    (λ e. rw (e, s.2) (pieces_more h [] s.0 s.1))
    (λ e. rw (e, s.2) (pieces-tail h s.0 b s.1))

module _ (l : Text) (p : ℕ) (c : Cut 41 l p) where
  pub action-yes : p + 1 ≡ length l → words_entry (split SPACE (take p l)) ≡ entry_of (read_action l)
  unfolding read_action split same ◌and◌
  action-yes h =
      let e : split 41 l ≡ take p l ∷ [] ∷ [] = c.found (omega arith) ∙ ap (λ r. take p l ∷ split 41 r) (drop_of_length-le l {i = p + 1} (omega arith)) in
      words-as (split SPACE (take p l)) ∙ rw e

  pub action-no : (p + 1 ≡ length l → ⊥) → Broken ≡ entry_of (read_action l)
  action-no n =
      sym (ap entry_of (pieces_are l ∙ by_cases (ltb p (length l))
      (λ e.
      let h : p < length l = ltb-true p (length l) e in
      let k : p + 1 < length l = omega (arith, n) in
      ap read_pieces (c.found h ∙ ap (λ r. take p l ∷ split 41 r) (drop-cons l (p + 1) 0 k)) ∙ pieces-behind (take p l) (drop (suc (p + 1)) l) (get_or l (p + 1) 0))
      (λ e. ap read_pieces (c.whole (ltb-false p (length l) e)) ∙ pieces-one l)) ∙ entry-none)

-- ## A line
pub line-none : (l : Text) → length l ≡ 0 → Broken ≡ plan_entry l
unfolding plan_entry read_action split same entry_of ◌and◌
line-none [] h = refl
line-none (b ∷ l) h = absurd (omega arith)

pub line-comment : (l : Text) → get_or l 0 0 ≡ 59 → Comment ≡ plan_entry l
unfolding plan_entry
line-comment l e = rw (eq-eqb (get_or l 0 0) 59 e)

pub line-action : (l : Text) → (get_or l 0 0 ≡ 59 → ⊥) → entry_of (read_action l) ≡ plan_entry l
unfolding plan_entry
line-action l n = rw (ne_eqb (get_or l 0 0) 59 n)
