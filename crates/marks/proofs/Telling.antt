-- What a report answers, test by test in the document's order: each law is one way out.
use mathlib.Core.Path.{◌≡◌, sym, ◌∙◌, ap}
use mathlib.Core.Bool.{Bool, true, false, not}
use mathlib.Core.List.{List}
use mathlib.Core.Option.{none, some}
use Prim.Native.Nat.{ℕ, ◌≤◌, ◌<◌}
use native.Mathlib.Omega.{arith}
use borrow.Author.Tests.{eq-eqb, ne_eqb, le-leb, lt-leb}
use lib.ListN.{length, get_or}
use Rattle.paper.specs.Basics.{◌and◌}
use Rattle.paper.specs.Yard.{Crossing, named}
use Rattle.paper.specs.Dependence.{depend, is_done, undone_before}
use Rattle.paper.specs.Docket.{unknown, early, mismarked, bad_marks}
use Rattle.paper.specs.Answers.{accept, already, refuse, tell}
use Rattle.paper.proofs.Tests.{and-true}
use Rattle.paper.proofs.Fields.{and-false}
use Rattle.paper.proofs.Members.{Passed}
use Rattle.marks.specs.Reading.{told_in_order}

-- the earlier crossing e keeps the crossing x waiting
abbrev pub waits_for : List Crossing → List ℕ → Crossing → ℕ → Bool
waits_for xs marks x e = depend x (named xs e) and not (is_done marks e)

module _ (xs : List Crossing) (marks : List ℕ) (x : Crossing) (e : ℕ) where
  pub waits-done : get_or marks e 0 ≡ 1 → false ≡ waits_for xs marks x e
  waits-done d = sym (ap (λ v. depend x (named xs e) and not v) (eq-eqb _ _ d) ∙ and-false (depend x (named xs e)))

  pub waits-undone : (get_or marks e 0 ≡ 1 → ⊥) → depend x (named xs e) ≡ waits_for xs marks x e
  waits-undone d = sym (ap (λ v. depend x (named xs e) and not v) (ne_eqb _ _ d) ∙ and-true (depend x (named xs e)))

-- no crossing waits for one before a place up to which all are done
pub waits-none : (xs : List Crossing) (marks : List ℕ) (x : Crossing) (name e : ℕ) → ((k : ℕ) → k < e → get_or marks k 0 ≡ 1) → Passed (waits_for xs marks x) name name e
waits-none xs marks x name e d = record {
  most = omega arith;
  hit = λ h. absurd (omega arith);
  before = λ k h l. sym (waits-done xs marks x k (d k h));
}

module _ (xs : List Crossing) (marks : List ℕ) (name : ℕ) where
  pub told-mismarked : bad_marks xs marks ≡ true → refuse mismarked ≡ tell xs marks name
  unfolding tell
  told-mismarked b = rw b

  pub told-on : bad_marks xs marks ≡ false → tell xs marks name ≡ told_in_order xs marks name
  unfolding tell told_in_order
  told-on b = rw b

  pub told-unknown : length xs ≤ name → refuse unknown ≡ told_in_order xs marks name
  unfolding told_in_order
  told-unknown h = rw (le-leb (length xs) name h)

  module _ (h : name < length xs) where
    pub told-already : get_or marks name 0 ≡ 1 → already ≡ told_in_order xs marks name
    unfolding told_in_order
    told-already d = rw (lt-leb (length xs) name h, eq-eqb _ _ d)

    module _ (d : get_or marks name 0 ≡ 1 → ⊥) where
      pub told-early : (e : ℕ) → some e ≡ undone_before xs marks name → refuse (early e) ≡ told_in_order xs marks name
      unfolding told_in_order
      told-early e u = rw (lt-leb (length xs) name h, ne_eqb _ _ d, ← u)

      pub told-accept : none ≡ undone_before xs marks name → accept ≡ told_in_order xs marks name
      unfolding told_in_order
      told-accept u = rw (lt-leb (length xs) name h, ne_eqb _ _ d, ← u)
