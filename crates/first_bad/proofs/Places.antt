-- The bays of the placement so far are marked, each by a byte of its own, so a marked bay is one that is already used.
use mathlib.Core.Path.{◌≡◌, refl, sym, ap, ◌∙◌}
use mathlib.Core.Bool.{true, false}
use mathlib.Core.List.{List}
use Prim.Native.Nat.{ℕ, ◌+◌, ◌≤◌, ◌<◌}
use native.Mathlib.Numerals.{add-one}
use native.Mathlib.Omega.{arith}
use lib.Dec.{eqb}
use lib.ListN.{length, get_or, take, set, replicate, length-set, length-replicate, get_or-replicate}
use lib.Seq.{take-suc, get_or-set_same, get_or-set_other}
use borrow.Author.Tests.{eqb-true, eqb-false, eq-eqb, ne_eqb, le-leb, lt-leb}
use Rattle.paper.specs.Basics.{◌or◌, elem}
use Rattle.paper.specs.Yard.{Bay, Placement}
use Rattle.paper.specs.Docket.{bad_place}
use Rattle.paper.proofs.Tests.{by_cases, or_left, or_right, or-false}
use Rattle.paper.proofs.Members.{elem-last}
use Rattle.paper.proofs.Marking.{flag}
use Rattle.words.specs.Sets.{span}

-- one bay more is marked
pub marked : (used : List ℕ) (x : Bay) → x < length used → (b : Bay) → flag (set used x 1) b ≡ flag used b or eqb b x
marked used x h b =
    by_cases (eqb b x)
    (λ e. rw (e, eqb-true b x e, get_or-set_same used x 1 0 h) (sym (or_right (flag used x) true refl)))
    (λ e. rw (e, get_or-set_other used x b 1 0 (eqb-false b x e)) (sym (or-false (flag used b))))

-- the bays of the first c carriers are marked, and no other
pub record Used (place : Placement) (c : ℕ) (used : List ℕ) : Type 0 where
  pub long : length used ≡ span
  pub same : (b : Bay) → b < span → flag used b ≡ elem b (take c place)

pub used-none : (place : Placement) → Used place 0 (replicate span 0)
unfolding elem
used-none place = record { long = length-replicate {A = ℕ} span 0; same = λ b h. ap (λ v. eqb v 1) (get_or-replicate span b 0 0 h) }

pub used-more : (place : Placement) (c : ℕ) (used : List ℕ) → c < length place → get_or place c 0 < span → Used place c used
    → Used place (c + 1) (set used (get_or place c 0) 1)
used-more place c used h k u = record {
  long = length-set used (get_or place c 0) 1 ∙ u.long;
  same = λ b l.
      rw (add-one c, take-suc place c 0 h, elem-last b (take c place) (get_or place c 0))
      (marked used (get_or place c 0) (rw u.long k) b ∙ ap (λ v. v or eqb b (get_or place c 0)) (u.same b l));
}

-- ---- the loop over the carriers

module _ (n : ℕ) (place : Placement) (c : ℕ) (used : List ℕ) (most : n ≤ span) (u : Used place c used) where
  pub outside-bad : n ≤ get_or place c 0 → bad_place n (take c place) (get_or place c 0) ≡ true
  unfolding bad_place
  outside-bad h = or_left _ _ (le-leb n _ h)

  -- a bay of the yard is bad exactly if it is marked
  pub used-bad : get_or place c 0 < n → get_or used (get_or place c 0) 0 ≡ 1 → bad_place n (take c place) (get_or place c 0) ≡ true
  unfolding bad_place ◌or◌
  used-bad h e = rw (lt-leb n _ h) (sym (u.same _ (omega arith)) ∙ eq-eqb _ _ e)

  pub unused-good : get_or place c 0 < n → (get_or used (get_or place c 0) 0 ≡ 1 → ⊥) → bad_place n (take c place) (get_or place c 0) ≡ false
  unfolding bad_place ◌or◌
  unused-good h e = rw (lt-leb n _ h) (sym (u.same _ (omega arith)) ∙ ne_eqb _ _ e)
