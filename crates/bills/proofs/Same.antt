-- The tests whether two records, or two lists of lines, are the same are true exactly if the two are equal.
use mathlib.Core.Path.{◌≡◌, refl, ◌∙◌, ap}
use mathlib.Core.Bool.{Bool, true, false}
use mathlib.Core.Logic.{◌↔◌}
use mathlib.Core.List.{List, [], ◌∷◌}
use Prim.Native.Nat.{ℕ}
use lib.ListN.{length}
use borrow.Author.Tests.{eqb-true, eq-eqb}
use Rattle.paper.specs.Yard.{crossings}
use Rattle.paper.specs.Order.{Order}
use Rattle.paper.proofs.Tests.{by_cases, not-both, and_left, and_right, and_both}
use Rattle.bills.specs.Answering.{same_numbers, same_record, is_same_line, same_lines, agree}
pub use Rattle.bills.specs.Demand.{Afresh}
use Rattle.bills.specs.declared.Record.{Record}
use Rattle.bills.specs.declared.Line.{Line}
use Rattle.bills.proofs.Stepping.{record-parts, line-parts, lines_long}

-- a test that is true exactly if the fact holds is false exactly if it does not
pub false-exactly : {P : Type 0} (b : Bool) → (b ≡ true) ↔ P → (b ≡ false) ↔ (P → ⊥)
false-exactly b f = (λ e p. not-both (f.1 p) e, λ n. by_cases b (λ e. absurd (n (f.0 e))) (λ e. e))

pub numbers-same : (l m : List ℕ) → (same_numbers l m ≡ true) ↔ (l ≡ m)
unfolding same_numbers
numbers-same l m = (to l m, λ e. rw e (from m))
  where
    to : (l m : List ℕ) → same_numbers l m ≡ true → l ≡ m
    to [] [] h = refl
    to [] (b ∷ m) h = not-both h refl
    to (a ∷ l) [] h = not-both h refl
    to (a ∷ l) (b ∷ m) h =
        let e = eqb-true a b (and_left _ _ h) in
        let f = to l m (and_right _ _ h) in
        rw (e, f)

    from : (m : List ℕ) → same_numbers m m ≡ true
    from [] = refl
    from (a ∷ m) = and_both _ _ (eq-eqb a a refl) (from m)

pub record_same : (a b : Record) → (same_record a b ≡ true) ↔ (a ≡ b)
record_same a b = (
  λ h.
      let r = and_right _ _ h in
      record-parts a b ((numbers-same a.at b.at).0 (and_left _ _ h)) (eqb-true _ _ (and_left _ _ r)) (eqb-true _ _ (and_right _ _ r)),
  λ e. rw e (and_both _ _ ((numbers-same b.at b.at).1 refl) (and_both _ _ (eq-eqb b.done b.done refl) (eq-eqb b.highest b.highest refl))),
)

pub line_same : (a b : Line) → is_same_line a b ≡ true → a ≡ b
line_same a b h =
    let r = and_right _ _ h in
    line-parts a b (eqb-true _ _ (and_left _ _ h)) (eqb-true _ _ (and_left _ _ r)) (eqb-true _ _ (and_right _ _ r))

same_line : (a : Line) → is_same_line a a ≡ true
same_line a = and_both _ _ (eq-eqb a.carrier a.carrier refl) (and_both _ _ (eq-eqb a.billed a.billed refl) (eq-eqb a.last a.last refl))

pub lines_same : (l m : List Line) → (same_lines l m ≡ true) ↔ (l ≡ m)
unfolding same_lines
lines_same l m = (to l m, λ e. rw e (from m))
  where
    to : (l m : List Line) → same_lines l m ≡ true → l ≡ m
    to [] [] h = refl
    to [] (b ∷ m) h = not-both h refl
    to (a ∷ l) [] h = not-both h refl
    to (a ∷ l) (b ∷ m) h =
        let e = line_same a b (and_left _ _ h) in
        let f = to l m (and_right _ _ h) in
        rw (e, f)

    from : (m : List Line) → same_lines m m ≡ true
    from [] = refl
    from (a ∷ m) = and_both _ _ (same_line a) (from m)

module _ (o : Order) (plan marks : List ℕ) (rec : Record) (lines : List Line) where
  pub agree-exactly : (agree o plan marks rec lines ≡ true) ↔ Afresh o.starts plan marks rec lines
  unfolding agree
  agree-exactly = (
    λ h. ((record_same rec _).0 (and_left _ _ h), (lines_same lines _).0 (and_right _ _ h)),
    λ f. and_both _ _ ((record_same rec _).1 f.0) ((lines_same lines _).1 f.1),
  )

  pub differ-exactly : (agree o plan marks rec lines ≡ false) ↔ (Afresh o.starts plan marks rec lines → ⊥)
  differ-exactly = false-exactly _ agree-exactly

  -- "The line list has exactly k entries"; one of another length does not agree
  pub other_length : (length lines ≡ length o.starts → ⊥) → agree o plan marks rec lines ≡ false
  other_length h = differ-exactly.1 (λ f. h (ap length f.1 ∙ lines_long (length o.starts) (crossings plan) marks))
