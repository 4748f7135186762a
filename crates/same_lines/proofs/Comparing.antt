-- Two lists of lines compared place by place: what is left of both decides.
use mathlib.Core.Path.{◌≡◌, refl, sym, ◌∙◌, ap, ap₂}
use mathlib.Core.Bool.{Bool, true, false, not, ◌&&◌}
use mathlib.Core.List.{List, [], ◌∷◌}
use Prim.Native.Nat.{ℕ, suc, ◌<◌, ◌≤◌, ◌+◌}
use native.Mathlib.Omega.{arith}
use native.Mathlib.Numerals.{add-one}
use borrow.Author.Tests.{ltb-true, ltb-false}
use lib.Dec.{ltb, eqb}
use lib.ListN.{length, get_or, take, drop, drop_of_length-le}
use lib.Seq.{drop-cons, get_or-take, length-take-le, take_all}
use Rattle.paper.specs.Basics.{◌and◌}
use Rattle.paper.specs.Limits.{most_bays}
use Rattle.paper.proofs.Tests.{by_cases}
use Rattle.bills.specs.Answering.{is_same_line, same_lines}
use Rattle.bills.specs.declared.Line.{Line}

pub other_count : (ls ls' : List Line) → (length ls ≡ length ls' → ⊥) → false ≡ same_lines ls ls'
unfolding same_lines ◌and◌
other_count [] [] d = absurd (d refl)
other_count [] (l' ∷ ls') d = refl
other_count (l ∷ ls) [] d = refl
other_count (l ∷ ls) (l' ∷ ls') d =
    let ih = other_count ls ls' (λ e. d (ap suc e)) in by_cases (is_same_line l l') (λ e. rw e ih) (λ e. rw e)

-- what the derived `!=` of two lines says
tested : (r s t : Bool) → (r && (s && t)) ≡ (r and (s and t))
unfolding ◌and◌
tested true true t = refl
tested true false t = refl
tested false s t = refl

other : (e : Bool) → true ≡ not e → e ≡ false
other true p = p
other false p = refl

alike : (e : Bool) → false ≡ not e → e ≡ true
alike true p = refl
alike false p = p

module _ (a b : Line) (r : Bool) (is : r ≡ not (eqb a.carrier b.carrier && (eqb a.billed b.billed && eqb a.last b.last))) where
  fields : (eqb a.carrier b.carrier && (eqb a.billed b.billed && eqb a.last b.last)) ≡ is_same_line a b
  fields = tested (eqb a.carrier b.carrier) (eqb a.billed b.billed) (eqb a.last b.last)

  pub line-other : r ≡ true → is_same_line a b ≡ false
  line-other e = sym fields ∙ other _ (sym e ∙ is)

  pub line-alike : r ≡ false → is_same_line a b ≡ true
  line-alike e = sym fields ∙ alike _ (sym e ∙ is)

-- from the place c on, the first `lent` lines of one list and the first `fresh` of another decide
pub record Alike (lent : ℕ) (a : List Line) (fresh : ℕ) (b : List Line) (c : ℕ) : Type 0 where
  pub counted : lent ≡ fresh
  pub within : c ≤ fresh
  pub whole : same_lines (take lent a) (take fresh b) ≡ same_lines (drop c (take lent a)) (drop c (take fresh b))

-- both lists have 256 places
module _ (lent : ℕ) (a : List Line) (fresh : ℕ) (b : List Line) (all : length a ≡ most_bays) (all' : length b ≡ most_bays) (few : fresh < most_bays) where
  fresh-long : length (take fresh b) ≡ fresh
  fresh-long = length-take-le fresh b (omega (arith, all', few))

  module _ (c : ℕ) (m : Alike lent a fresh b c) where
    lent-long : length (take lent a) ≡ fresh
    lent-long = length-take-le lent a (omega (arith, all, few, m.counted)) ∙ m.counted

    lines-turn : (d : Line) → c < fresh → same_lines (take lent a) (take fresh b) ≡ (is_same_line (get_or a c d) (get_or b c d) and same_lines (drop (suc c) (take lent a)) (drop (suc c) (take fresh b)))
    unfolding same_lines
    lines-turn d h =
        m.whole
        ∙ ap₂ same_lines (drop-cons (take lent a) c d (rw lent-long h)) (drop-cons (take fresh b) c d (rw fresh-long h))
        ∙ ap₂ (λ x y. is_same_line x y and same_lines (drop (suc c) (take lent a)) (drop (suc c) (take fresh b)))
        (get_or-take lent a c d (omega (arith, h, m.counted))) (get_or-take fresh b c d h)

    pub lines-differ : (d : Line) → c < fresh → is_same_line (get_or a c d) (get_or b c d) ≡ false → false ≡ same_lines (take lent a) (take fresh b)
    unfolding ◌and◌
    lines-differ d h other = sym (lines-turn d h ∙ rw other)

    pub lines-on : (d : Line) → c < fresh → is_same_line (get_or a c d) (get_or b c d) ≡ true → Alike lent a fresh b (c + 1)
    unfolding ◌and◌
    lines-on d h e = record { counted = m.counted; within = omega arith; whole = rw (add-one c) (lines-turn d h ∙ rw e) }

    pub lines_end : fresh ≤ c → true ≡ same_lines (take lent a) (take fresh b)
    unfolding same_lines
    lines_end h =
        sym (m.whole
        ∙ ap₂ same_lines (drop_of_length-le (take lent a) {i = c} (omega (arith, h, lent-long))) (drop_of_length-le (take fresh b) {i = c} (omega (arith, h, fresh-long))))

  pub lines_start : lent ≡ fresh → Alike lent a fresh b 0
  lines_start e = record { counted = e; within = omega arith; whole = refl }

  -- another count is another length, also where it is more than 256
  pub lines-miscounted : (lent ≡ fresh → ⊥) → false ≡ same_lines (take lent a) (take fresh b)
  lines-miscounted d =
      by_cases (ltb lent most_bays)
      (λ e. other_count (take lent a) (take fresh b) (λ q. d (sym (length-take-le lent a (let l = ltb-true lent most_bays e in omega (arith, l, all))) ∙ q ∙ fresh-long)))
      (λ e. other_count (take lent a) (take fresh b) (λ q.
      let long : length (take lent a) ≡ most_bays = ap length (take_all lent a (let l = ltb-false lent most_bays e in omega (arith, l, all))) ∙ all in
      absurd (omega (arith, long, q, fresh-long, few))))
