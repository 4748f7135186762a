-- The choice among bays is what the document says: nothing that passes has fewer rails, and of what has as few nothing is lower. No
-- two bays come before each other, so there is one choice.
use mathlib.Core.Path.{◌≡◌, refl, ◌∙◌, ap, sym}
use mathlib.Core.Bool.{Bool, true, false}
use mathlib.Core.List.{List, [], ◌∷◌}
use mathlib.Core.Logic.{inl, inr, ⊎_elim}
use mathlib.Core.Option.{none, some}
use Prim.Native.Nat.{min}
use native.Mathlib.Omega.{arith}
use lib.Dec.{ltb}
use borrow.Author.Tests.{ltb-true, ltb-false}
use Rattle.paper.specs.Basics.{In}
use Rattle.paper.specs.Yard.{Bay, Yard, rails_at}
use Rattle.paper.specs.Path.{Rather, fewer, choice}
use Rattle.paper.proofs.Tests.{by_cases, by-option, not-both, never-some, some_same}
use Rattle.paper.proofs.Members.{In-nil, In-cases, In-head, In-tail, min-either}

module _ (Y : Yard) where
  rather-itself : (a : Bay) → Rather (rails_at Y) a a
  rather-itself a = inr (refl, omega arith)

  rather-through : (a b c : Bay) → Rather (rails_at Y) a b → Rather (rails_at Y) b c → Rather (rails_at Y) a c
  rather-through a b c s t =
      ⊎_elim
      (λ l. ⊎_elim (λ m. inl (omega arith)) (λ m. inl (omega (arith, m.0))) t)
      (λ l. ⊎_elim (λ m. inl (omega (arith, l.0))) (λ m. inr (l.0 ∙ m.0, omega (arith, l.1, m.1))) t)
      s

  rather-one : (a b : Bay) → Rather (rails_at Y) a b → Rather (rails_at Y) b a → a ≡ b
  rather-one a b s t =
      ⊎_elim
      (λ l. ⊎_elim (λ m. absurd (omega arith)) (λ m. absurd (omega (arith, m.0))) t)
      (λ l. ⊎_elim (λ m. absurd (omega (arith, l.0))) (λ m. omega (arith, l.1, m.1)) t)
      s

  -- what is taken of two bays comes before both, and is one of them
  fewer-both : (a b : Bay) → Rather (rails_at Y) (fewer Y a b) a × Rather (rails_at Y) (fewer Y a b) b
  unfolding fewer
  fewer-both a b =
      by_cases (ltb (rails_at Y a) (rails_at Y b))
      (λ l. rw l (rather-itself a, inl (ltb-true (rails_at Y a) (rails_at Y b) l)))
      (λ l. by_cases (ltb (rails_at Y b) (rails_at Y a))
      (λ m. rw (l, m) (inl (ltb-true (rails_at Y b) (rails_at Y a) m), rather-itself b))
      (λ m.
      let same : rails_at Y a ≡ rails_at Y b = omega (arith, ltb-false (rails_at Y a) (rails_at Y b) l, ltb-false (rails_at Y b) (rails_at Y a) m) in
      rw (l, m) (by_cases (ltb a b)
      (λ k. let e : min a b ≡ a = omega (arith, ltb-true a b k) in rw e (rather-itself a, inr (same, omega (arith, ltb-true a b k))))
      (λ k. let e : min a b ≡ b = omega (arith, ltb-false a b k) in rw e (inr (sym same, omega (arith, ltb-false a b k)), rather-itself b)))))

  fewer-either : (P : Bay → Type 0) (a b : Bay) → P a → P b → P (fewer Y a b)
  unfolding fewer
  fewer-either P a b x y =
      by_cases (ltb (rails_at Y a) (rails_at Y b))
      (λ l. rw l x)
      (λ l. by_cases (ltb (rails_at Y b) (rails_at Y a)) (λ m. rw (l, m) y) (λ m. rw (l, m) (min-either P a b x y)))

  module _ (q : Bay → Bool) where
    -- a member that passes, taken rather than every other
    pub record Chosen (l : List Bay) (e : Bay) : Type 0 where
      pub there : In e l
      pub passes : q e ≡ true
      pub before : (b : Bay) → In b l → q b ≡ true → Rather (rails_at Y) e b

    pub choice-none : (l : List Bay) → choice Y q l ≡ none → (b : Bay) → In b l → q b ≡ false
    unfolding choice
    choice-none [] h b i = In-nil b i
    choice-none (x ∷ l) h b i =
        by_cases (q x)
        (λ e. by-option (choice Y q l) (λ k. never-some _ (sym (rw (e, k) at h))) (λ z k. never-some _ (sym (rw (e, k) at h))))
        (λ e. In-cases b x l i (λ s. rw s e) (λ j. choice-none l (rw e at h) b j))

    pub chosen-alone : (x : Bay) (l : List Bay) → q x ≡ true → ((b : Bay) → In b l → q b ≡ false) → Chosen (x ∷ l) x
    chosen-alone x l h f = record {
      there = In-head x l;
      passes = h;
      before = λ b i p. In-cases b x l i (λ s. rw s (rather-itself x)) (λ j. not-both p (f b j));
    }

    chosen-past : (x : Bay) (l : List Bay) {e : Bay} → q x ≡ false → Chosen l e → Chosen (x ∷ l) e
    chosen-past x l {e} h c = record {
      there = In-tail e x l c.there;
      passes = c.passes;
      before = λ b i p. In-cases b x l i (λ s. not-both (rw s at p) h) (λ j. c.before b j p);
    }

    chosen-fewer : (x : Bay) (l : List Bay) {e : Bay} → q x ≡ true → Chosen l e → Chosen (x ∷ l) (fewer Y x e)
    chosen-fewer x l {e} h c =
        let both = fewer-both x e in
        record {
          there = fewer-either (λ b. In b (x ∷ l)) x e (In-head x l) (In-tail e x l c.there);
          passes = fewer-either (λ b. q b ≡ true) x e h c.passes;
          before = λ b i p. In-cases b x l i (λ s. rw s both.0) (λ j. rather-through (fewer Y x e) e b both.1 (c.before b j p));
        }

    pub choice-chosen : (l : List Bay) {e : Bay} → choice Y q l ≡ some e → Chosen l e
    unfolding choice
    choice-chosen [] {e} h = never-some e h
    choice-chosen (x ∷ l) {e} h =
        by_cases (q x)
        (λ p. by-option (choice Y q l)
        (λ k. let m = some_same (rw (p, k) at h) in rw (← m) (chosen-alone x l p (choice-none l k)))
        (λ z k. let m = some_same (rw (p, k) at h) in rw (← m) (chosen-fewer x l p (choice-chosen l k))))
        (λ p. chosen-past x l p (choice-chosen l (rw p at h)))

    pub chosen-choice : (l : List Bay) {e : Bay} → Chosen l e → choice Y q l ≡ some e
    chosen-choice l {e} c =
        by-option (choice Y q l)
        (λ k. not-both c.passes (choice-none l k e c.there))
        (λ f k.
        let d = choice-chosen l k in
        k ∙ ap some (rather-one f e (d.before e c.there c.passes) (c.before f d.there d.passes)))

    pub none-choice : (l : List Bay) → ((b : Bay) → In b l → q b ≡ false) → choice Y q l ≡ none
    none-choice l f = by-option (choice Y q l) (λ k. k) (λ e k. let c = choice-chosen l k in not-both c.passes (f e c.there))
