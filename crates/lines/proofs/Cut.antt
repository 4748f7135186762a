-- Lines are made from the right, so up to the first LF they make one line, without a CR at its end, and the rest makes the others.
use Rattle.std.proofs.Common.{None, Some}
use Rattle.std.specs.Prelude.{if◌then◌else◌}
use mathlib.Core.Path.{◌≡◌, refl, sym, ◌∙◌, ap}
use mathlib.Core.Bool.{true, false, not}
use mathlib.Core.List.{[], ◌∷◌, ◌++◌, append-nil}
use Prim.Native.Nat.{ℕ, suc, ◌+◌, ◌-◌, ◌≤◌, ◌<◌}
use native.Mathlib.Omega.{arith}
use native.Mathlib.Numerals.{add-one}
use lib.Dec.{eqb}
use lib.ListN.{length, take, drop, get_or, take-append-drop, drop_of_length-le, length-drop}
use lib.Seq.{take-suc, drop-cons, drop-drop, get_or-drop}
use borrow.Author.Tests.{ne_eqb, not-true}
use Rattle.paper.specs.Basics.{◌and◌}
use Rattle.paper.specs.Text.{Text, LF, CR, join, begins_with_lf, lines, all}
use Rattle.paper.proofs.Tests.{by_cases, and_left, and_right, and_both}
use Rattle.lines.specs.FoundLine.{FoundLine}
use Rattle.lines.specs.Lines.{part, no_lf, EndOf, TextAt, LineAt}

-- without a CR at the end
unfoldable pub chop : Text → Text
chop [] = []
chop (b ∷ []) = if eqb b CR then [] else b ∷ []
chop (b ∷ c ∷ l) = b ∷ chop (c ∷ l)

pub first_plain : (b : ℕ) (l : Text) → no_lf (b ∷ l) ≡ true → eqb b LF ≡ false
unfolding no_lf all
first_plain b l h = not-true (eqb b LF) (and_left (not (eqb b LF)) (no_lf l) h)

pub rest_plain : (b : ℕ) (l : Text) → no_lf (b ∷ l) ≡ true → no_lf l ≡ true
unfolding no_lf all
rest_plain b l h = and_right (not (eqb b LF)) (no_lf l) h

lines_join : (b : ℕ) (l : Text) → eqb b LF ≡ false → begins_with_lf l ≡ false → lines (b ∷ l) ≡ join b (lines l)
unfolding lines ◌and◌
lines_join b l e f = by_cases (eqb b CR) (λ g. rw (e, g, f)) (λ g. rw (e, g))

pub lines_cut : (l t : Text) → no_lf l ≡ true → lines (l ++ LF ∷ t) ≡ chop l ∷ lines t
unfolding lines chop join begins_with_lf ◌and◌
lines_cut [] t h = refl
lines_cut (b ∷ []) t h =
    rw (first_plain b [] h) (by_cases (eqb b CR) (λ e. rw e) (λ e. rw e))
lines_cut (b ∷ c ∷ l) t h =
    lines_join b (c ∷ l ++ LF ∷ t) (first_plain b (c ∷ l) h) (first_plain c l (rest_plain b (c ∷ l) h))
    ∙ ap (join b) (lines_cut (c ∷ l) t (rest_plain b (c ∷ l) h))

pub lines-last : (b : ℕ) (l : Text) → no_lf (b ∷ l) ≡ true → lines (b ∷ l) ≡ (b ∷ l) ∷ []
unfolding lines join begins_with_lf ◌and◌
lines-last b [] h = lines_join b [] (first_plain b [] h) refl
lines-last b (c ∷ l) h =
    lines_join b (c ∷ l) (first_plain b (c ∷ l) h) (first_plain c l (rest_plain b (c ∷ l) h))
    ∙ ap (join b) (lines-last c l (rest_plain b (c ∷ l) h))

plain_more : (l : Text) (b : ℕ) → no_lf l ≡ true → eqb b LF ≡ false → no_lf (l ++ (b ∷ [])) ≡ true
unfolding no_lf all ◌and◌
plain_more [] b h e = rw e
plain_more (c ∷ l) b h e = and_both (not (eqb c LF)) (no_lf (l ++ (b ∷ []))) (and_left (not (eqb c LF)) (no_lf l) h) (plain_more l b (rest_plain c l h) e)

chop-cr : (l : Text) → chop (l ++ (CR ∷ [])) ≡ l
unfolding chop
chop-cr [] = refl
chop-cr (b ∷ []) = refl
chop-cr (b ∷ c ∷ l) = ap (λ m. b ∷ m) (chop-cr (c ∷ l))

chop-other : (l : Text) (x : ℕ) → eqb x CR ≡ false → chop (l ++ (x ∷ [])) ≡ l ++ (x ∷ [])
unfolding chop
chop-other [] x e = rw e
chop-other (b ∷ []) x e = ap (λ m. b ∷ m) (chop-other [] x e)
chop-other (b ∷ c ∷ l) x e = ap (λ m. b ∷ m) (chop-other (c ∷ l) x e)

module _ (file : Text) (from : ℕ) where
  part-more : (to : ℕ) → from ≤ to → to < length file → part file from (suc to) ≡ part file from to ++ (get_or file to 0 ∷ [])
  part-more to h i =
      let k : suc to - from ≡ suc (to - from) = omega arith in
      let j : to - from < length (drop from file) = rw (length-drop from file) (omega arith) in
      let e : from + (to - from) ≡ to = omega arith in
      ap (λ n. take n (drop from file)) k
      ∙ take-suc (drop from file) (to - from) 0 j
      ∙ ap (λ x. part file from to ++ (x ∷ [])) (get_or-drop from file (to - from) 0 ∙ ap (λ n. get_or file n 0) e)

  part-rest : (to : ℕ) → from ≤ to → drop from file ≡ part file from to ++ drop to file
  part-rest to h =
      let e : from + (to - from) ≡ to = omega arith in
      sym (take-append-drop (to - from) (drop from file)) ∙ ap (λ l. part file from to ++ l) (drop-drop (to - from) from file ∙ ap (λ n. drop n file) e)

  -- none from its beginning on
  part_none : part file from from ≡ []
  part_none = let e : from - from ≡ 0 = omega arith in ap (λ n. take n (drop from file)) e

  pub end_none : no_lf (part file from from) ≡ true
  unfolding no_lf all
  end_none = rw part_none

  pub end_more : (to : ℕ) → from ≤ to → to < length file → (get_or file to 0 ≡ LF → ⊥) → no_lf (part file from to) ≡ true → no_lf (part file from (to + 1)) ≡ true
  end_more to h i n p =
      rw (add-one to, part-more to h i) (plain_more (part file from to) (get_or file to 0) p (ne_eqb (get_or file to 0) LF n))

  module _ (to : ℕ) (e : EndOf file from to) where
    cut : to < length file → lines (drop from file) ≡ chop (part file from to) ∷ lines (drop (to + 1) file)
    cut i =
        ap lines (part-rest to e.low ∙ ap (λ l. part file from to ++ l) (drop-cons file to 0 i ∙ ap (λ b. b ∷ drop (suc to) file) (e.stops i)))
        ∙ lines_cut (part file from to) (drop (suc to) file) e.plain
        ∙ ap (λ n. chop (part file from to) ∷ lines (drop n file)) (sym (add-one to))

    before : from < to → to < length file → part file from to ≡ part file from (to - 1) ++ (get_or file (to - 1) 0 ∷ [])
    before h i = let k : to ≡ suc (to - 1) = omega arith in ap (part file from) k ∙ part-more (to - 1) (omega arith) (omega arith)

    pub text-cr : to < length file → from < to → get_or file (to - 1) 0 ≡ CR → TextAt file from (to - 1) (to + 1)
    text-cr i h c = record {
      low = omega arith;
      high = omega arith;
      on = omega arith;
      within = omega arith;
      reads = cut i ∙ ap (λ l. l ∷ lines (drop (to + 1) file)) (ap chop (before h i ∙ ap (λ x. part file from (to - 1) ++ (x ∷ [])) c) ∙ chop-cr (part file from (to - 1)));
    }

    pub text-lf : to < length file → from < to → (get_or file (to - 1) 0 ≡ CR → ⊥) → TextAt file from to (to + 1)
    text-lf i h c = record {
      low = e.low;
      high = omega arith;
      on = omega arith;
      within = omega arith;
      reads = cut i ∙ ap (λ l. l ∷ lines (drop (to + 1) file)) (ap chop (before h i) ∙ chop-other (part file from (to - 1)) (get_or file (to - 1) 0) (ne_eqb _ _ c) ∙ sym (before h i));
    }

    pub text-empty : to < length file → to ≤ from → TextAt file from to (to + 1)
    unfolding chop
    text-empty i h =
        let q : to ≡ from = omega (arith, e.low) in
        let n : part file from to ≡ [] = ap (part file from) q ∙ part_none in
        record {
          low = e.low;
          high = omega arith;
          on = omega arith;
          within = omega arith;
          reads = cut i ∙ ap (λ l. l ∷ lines (drop (to + 1) file)) (ap chop n ∙ sym n);
        }

    whole : length file ≤ to → drop from file ≡ part file from to
    whole h = part-rest to e.low ∙ ap (λ l. part file from to ++ l) (drop_of_length-le file {i = to} h) ∙ append-nil (part file from to)

    pub text-last : length file ≤ to → from < to → TextAt file from to to
    unfolding lines
    text-last h i = record {
      low = e.low;
      high = e.high i;
      on = i;
      within = e.high i;
      reads = ap lines (whole h ∙ some-part) ∙ lines-last (get_or file from 0) (drop (suc from) file) (rw (some-part) at e.plain) ∙ ap (λ l. l ∷ []) (sym some-part) ∙ ap (λ l. part file from to ∷ lines l) (sym (drop_of_length-le file {i = to} h));
    }
      where
        some-part : part file from to ≡ get_or file from 0 ∷ drop (suc from) file
        some-part = sym (whole h) ∙ drop-cons file from 0 (omega (arith, e.high i))

    pub line-none : length file ≤ to → to ≤ from → lines (drop from file) ≡ []
    unfolding lines
    line-none h i = ap lines (drop_of_length-le file {i = from} (omega arith))

-- how the answers are given
abbrev end_of : FoundLine → ℕ
end_of (Some l) = l.end
end_of None = 0

abbrev next_of : FoundLine → ℕ
next_of (Some l) = l.next
next_of None = 0

pub found : {file : Text} {from end next : ℕ} → TextAt file from end next → LineAt file from (Some (record { end = end; next = next }))
found {file} {from} {end} {next} t = record {
  line = λ e n q. let a : end ≡ e = ap end_of q in let b : next ≡ n = ap next_of q in rw (← a, ← b) t;
  none = λ q. let z : ◌≡◌ {A = ℕ} 0 1 = cc in absurd (omega arith);
}

pub ended : {file : Text} {from : ℕ} → lines (drop from file) ≡ [] → LineAt file from None
ended e = record { line = λ e n q. let z : ◌≡◌ {A = ℕ} 0 1 = cc in absurd (omega arith); none = λ q. e }
