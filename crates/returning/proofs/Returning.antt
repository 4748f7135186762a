-- The search for the last return goes up name by name: a crossing that is dropped or leads elsewhere is passed, a return of the carrier is the
-- last so far, and another carrier's entering ends it.
use mathlib.Core.Path.{◌≡◌, refl, sym, ◌∙◌, ap}
use mathlib.Core.List.{List, [], ◌∷◌}
use mathlib.Core.Option.{Option, none, some}
use Prim.Native.Nat.{ℕ, zero, suc, ◌≤◌, ◌<◌, ◌+◌}
use native.Mathlib.Omega.{arith}
use native.Mathlib.Numerals.{add-one}
use lib.ListN.{length, get_or, drop, drop_of_length-le}
use lib.Seq.{drop-cons}
use borrow.Author.Tests.{eq-eqb, ne_eqb}
use Rattle.paper.specs.Basics.{◌>>=◌, or_else}
use Rattle.paper.specs.Yard.{Crossing, crossings, named}
use Rattle.paper.proofs.Tests.{by-option}
use Rattle.plans.proofs.Rest.{rest-next}
use Rattle.trips.specs.Names.{last_place}
use Rattle.trips.proofs.Naming.{place-past, place-back, place-barred, NoTrip}
use Rattle.chains.specs.Links.{Passed}
use Rattle.returning.specs.Returns.{name_at, last_from}

name-past : (last m : ℕ) (o : Option ℕ) → name_at last m (o >>= λ n. some (suc n)) ≡ name_at last (suc m) o
name-past last m none = refl
name-past last m (some d) = omega arith

name_back : (last m : ℕ) (o : Option ℕ) → name_at last m (or_else (o >>= λ n. some (suc n)) (some 0)) ≡ name_at m (suc m) o
name_back last m none = omega arith
name_back last m (some d) = omega arith

none_left : (x : Crossing) (ys : List Crossing) → last_place x.carrier x.from [] ys ≡ none
unfolding last_place
none_left x ys = refl

module _ (plan gone : List ℕ) (same : length gone ≡ length plan) (x : Crossing) (last m : ℕ) where
  abbrev g : ℕ
  g = get_or gone m 0

  abbrev y : Crossing
  y = named (crossings plan) m

  here : m < length plan → last_place x.carrier x.from (drop m gone) (drop m (crossings plan))
      ≡ last_place x.carrier x.from (g ∷ drop (suc m) gone) (y ∷ drop (suc m) (crossings plan))
  here l = rw (drop-cons gone m 0 (omega arith), rest-next plan m l)

  pub returning-past : m < length plan → (g ≡ 0 → y.to ≡ x.from → ⊥)
      → last_from x (crossings plan) gone last (m + 1) ≡ last_from x (crossings plan) gone last m
  returning-past l n =
      rw (add-one m)
      (sym (ap (name_at last m) (here l ∙ place-past x.carrier x.from g (drop (suc m) gone) y (drop (suc m) (crossings plan)) (λ z. ne_eqb _ _ (n z)))
      ∙ name-past last m (last_place x.carrier x.from (drop (suc m) gone) (drop (suc m) (crossings plan)))))

  pub returning-back : m < length plan → g ≡ 0 → y.to ≡ x.from → y.carrier ≡ x.carrier
      → last_from x (crossings plan) gone m (m + 1) ≡ last_from x (crossings plan) gone last m
  returning-back l z t i =
      rw (add-one m)
      (sym (ap (name_at last m)
      (here l ∙ place-back x.carrier x.from g (drop (suc m) gone) y (drop (suc m) (crossings plan)) z (eq-eqb _ _ t) (eq-eqb _ _ i))
      ∙ name_back last m (last_place x.carrier x.from (drop (suc m) gone) (drop (suc m) (crossings plan)))))

  pub returning-barred : m < length plan → g ≡ 0 → y.to ≡ x.from → (y.carrier ≡ x.carrier → ⊥)
      → last ≡ last_from x (crossings plan) gone last m
  returning-barred l z t n =
      sym (ap (name_at last m)
      (here l ∙ place-barred x.carrier x.from g (drop (suc m) gone) y (drop (suc m) (crossings plan)) z (eq-eqb _ _ t) (ne_eqb _ _ n)))

  pub returning-end : length plan ≤ m → last ≡ last_from x (crossings plan) gone last m
  returning-end h =
      sym (ap (name_at last m)
      (ap (λ gs. last_place x.carrier x.from gs (drop m (crossings plan))) (drop_of_length-le gone {i = m} (omega arith)) ∙ none_left x _))

-- names that are passed are no return
pub returning-over : (plan gone : List ℕ) → length gone ≡ length plan → (x : Crossing) (last key d m r : ℕ) → r ≡ m + d → r ≤ length plan → key ≡ x.from
    → Passed plan gone 0 key m r → last_from x (crossings plan) gone last r ≡ last_from x (crossings plan) gone last m
returning-over plan gone same x last key zero m r at h is p = let z : r ≡ m = omega arith in ap (last_from x (crossings plan) gone last) z
returning-over plan gone same x last key (suc d) m r at h is p =
    returning-over plan gone same x last key d (m + 1) r (omega arith) h is (λ k l. p k (omega arith))
    ∙ returning-past plan gone same x last m (omega arith) (λ z e. let one = p m (omega arith) (omega arith) (e ∙ sym is) in omega (arith, one, z))

-- a last return at the leaving itself is none
pub no_return : (xs : List Crossing) (gone : List ℕ) (i : ℕ) → i ≡ last_from (named xs i) xs gone i (suc i) → NoTrip gone xs i
no_return xs gone i h =
    by-option (last_place (named xs i).carrier (named xs i).from (drop (suc i) gone) (drop (suc i) xs))
    (λ e. e)
    (λ d e. absurd (omega (arith, rw e at h)))
