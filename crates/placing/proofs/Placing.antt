-- One carrier after the other takes its bay: the bays of those before c have their carrier, and all others have none and are empty.
-- Assumes nothing.
use Rattle.std.specs.Prelude.{if◌then◌else◌}
use mathlib.Core.Path.{◌≡◌, refl, sym, ◌∙◌}
use mathlib.Core.Bool.{Bool, true, false, not}
use mathlib.Core.List.{List}
use Prim.Native.Nat.{ℕ, ◌+◌, ◌≤◌, ◌<◌}
use native.Mathlib.Decide.{ℕ_discrete}
use native.Mathlib.Numerals.{add-one}
use native.Mathlib.Omega.{arith}
use lib.Dec.{eqb}
use lib.ListN.{length, get_or, set, take}
use lib.Seq.{get_or-set_same, get_or-set_other, take-suc, take_all}
use borrow.Author.Tests.{eq-eqb, ne_eqb}
use Rattle.paper.specs.Basics.{◌and◌, ◌or◌, elem}
use Rattle.paper.specs.Yard.{Bay, Placement, bay_of, carrier_at}
use Rattle.paper.proofs.Tests.{by_cases}
use Rattle.paper.proofs.Playing.{Apart}
use Rattle.words.specs.Sets.{mem}
use Rattle.paper.proofs.Members.{elem-last}
use Rattle.moving.specs.Placed.{Placed}
use Rattle.moving.proofs.Playing.{carrier-is, carrier-none}
use Rattle.placing.specs.Nobody.{Nobody}

pub nobody-none : (k : ℕ) (standing empty : List ℕ) → Nobody 0 k standing empty
nobody-none k standing empty = record { stands = λ z h. absurd (omega arith); empties = λ z h. absurd (omega arith) }

-- one bay more
pub nobody-more : (b k : ℕ) (standing empty empty' : List ℕ) → b < length standing → Nobody b k standing empty
    → ((z : ℕ) → mem empty' z ≡ mem empty z or eqb z b) → Nobody (b + 1) k (set standing b k) empty'
unfolding ◌or◌
nobody-more b k standing empty empty' h o e = record {
  stands = λ z l. elim (ℕ_discrete z b) [
    | yes q ↦ rw (q, get_or-set_same standing b k 0 h)
    | no q ↦ get_or-set_other standing b z k 0 q ∙ o.stands z (omega arith)
  ];
  empties = λ z l. elim (ℕ_discrete z b) [
    | yes q ↦ e z ∙ rw (q, eq-eqb b b refl) (or-true (mem empty b))
    | no q ↦ e z ∙ rw (o.empties z (omega arith))
  ];
}
  where
    or-true : (t : Bool) → t or true ≡ true
    or-true true = refl
    or-true false = refl

-- the carriers before c stand at their bays
pub record Placing (n : ℕ) (p : Placement) (c : ℕ) (standing empty : List ℕ) : Type 0 where
  pub stands : (z : ℕ) → z < n → get_or standing z 0 ≡ (if elem z (take c p) then carrier_at p z else length p)
  pub empties : (z : ℕ) → z < n → mem empty z ≡ not (elem z (take c p))

pub placing-none : (n : ℕ) (p standing empty : List ℕ) → Nobody n (length p) standing empty → Placing n p 0 standing empty
unfolding elem
placing-none n p standing empty o = record { stands = o.stands; empties = o.empties }

pub placing-more : (n : ℕ) (p : Placement) (c : ℕ) (standing empty empty' : List ℕ) → Apart p → c < length p → bay_of p c < n → n ≤ length standing
    → Placing n p c standing empty → ((z : ℕ) → mem empty' z ≡ mem empty z and not (eqb z (bay_of p c)))
    → Placing n p (c + 1) (set standing (bay_of p c) c) empty'
unfolding ◌and◌ ◌or◌
placing-more n p c standing empty empty' apart h hb len g e =
    let b : Bay = bay_of p c in
    let one_more : (z : ℕ) → elem z (take (c + 1) p) ≡ elem z (take c p) or eqb z b =
    λ z. rw (add-one, take-suc p c 0 h) (elem-last z (take c p) b) in
    record {
      stands = λ z l. elim (ℕ_discrete z b) [
        | yes q ↦ rw (q, get_or-set_same standing b c 0 (omega arith), one_more b, eq-eqb b b refl, or-last (elem b (take c p))) (sym (carrier-is p b c apart h refl))
        | no q ↦ get_or-set_other standing b z c 0 q ∙ g.stands z l ∙ rw (one_more z, ne_eqb z b q, or-first (elem z (take c p)))
      ];
      empties = λ z l. elim (ℕ_discrete z b) [
        | yes q ↦ e z ∙ rw (q, one_more b, eq-eqb b b refl, or-last (elem b (take c p))) (and-never (mem empty b))
        | no q ↦ e z ∙ rw (one_more z, ne_eqb z b q, or-first (elem z (take c p)), g.empties z l) (and-always (elem z (take c p)))
      ];
    }
  where
    or-last : (t : Bool) → t or true ≡ true
    or-last true = refl
    or-last false = refl

    or-first : (t : Bool) → t or false ≡ t
    or-first true = refl
    or-first false = refl

    and-never : (t : Bool) → t and not true ≡ not true
    and-never true = refl
    and-never false = refl

    and-always : (t : Bool) → not t and not false ≡ not t
    and-always true = refl
    and-always false = refl

pub placing-all : (n : ℕ) (p : Placement) (c : ℕ) (standing empty : List ℕ) → Apart p → ((d : ℕ) → d < length p → bay_of p d < n) → length p ≤ n → length p ≤ c
    → Placing n p c standing empty → Placed n p standing empty
placing-all n p c standing empty apart inside few all g =
    let whole : take c p ≡ p = take_all c p all in
    record {
      apart = apart;
      inside = inside;
      few = few;
      stands = λ z h. by_cases (elem z p)
          (λ i. rw whole at (g.stands z h) ∙ rw i)
          (λ o. rw whole at (g.stands z h) ∙ rw o (sym (carrier-none p z o)));
      empties = λ z h. rw whole at (g.empties z h);
    }
