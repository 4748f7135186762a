-- The rails of one cell more stand behind those of the cells before it.
use mathlib.Core.Path.{◌≡◌, refl, sym, ◌∙◌, ap}
use mathlib.Core.List.{List, [], ◌∷◌, ◌++◌, map, map-append, append_assoc, append-nil}
use Prim.Native.Nat.{ℕ, zero, suc, ◌+◌, ◌-◌, ◌*◌, ◌^◌, ◌≤◌, ◌<◌}
use native.Mathlib.Omega.{arith}
use native.Mathlib.Nat.{mul-le-mul_left}
use native.Mathlib.Numerals.{add-one}
use lib.Dec.{eqb}
use lib.ListN.{length, length-append}
use Rattle.paper.specs.Basics.{concat, count_from, up_to}
use Rattle.paper.proofs.Tests.{by_cases}
use Rattle.stores.specs.Writing.{Wrote}
use Rattle.gridmap.specs.Cells.{number_in, beside_in, rail_of, rails_at_in, rails_to}

-- sides of 8 bits make a product of 16, and one that is no 0 has no side 0
pub product_small : (a b : ℕ) → a < 2 ^ 8 → b < 2 ^ 8 → a * b < 2 ^ 16
product_small a b h i = let m : a * b ≤ a * (2 ^ 8 - 1) = mul-le-mul_left a (omega arith) in omega arith

rail-short : (a b : ℕ) → length (rail_of a b) ≤ 2
unfolding rail_of
rail-short a b = by_cases (eqb a 0) (λ e. rw e (omega arith)) (λ e. rw e (by_cases (eqb b 0) (λ f. rw f (omega arith)) (λ f. rw f (omega arith))))

pub rail-next : (l : List ℕ) (at a b : ℕ) (m : List ℕ) (r : ℕ) → Wrote l at (rail_of a b) m r → r ≤ at + 2
rail-next l at a b m r w = omega (arith, w.counted, rail-short a b)

count-snoc : (a k : ℕ) → count_from a (suc k) ≡ count_from a k ++ ((a + k) ∷ [])
unfolding count_from
count-snoc a zero = ap (λ n. n ∷ []) (omega arith)
count-snoc a (suc k) = ap (λ l. a ∷ l) (count-snoc (suc a) k ∙ ap (λ n. count_from (suc a) k ++ (n ∷ [])) (omega arith))

pub concat-append : (a b : List (List ℕ)) → concat (a ++ b) ≡ concat a ++ concat b
unfolding concat
concat-append [] b = refl
concat-append (l ∷ a) b = rw (concat-append a b) (sym (append_assoc l (concat a) (concat b)))

pub concat-one : (l : List ℕ) → concat (l ∷ []) ≡ l
unfolding concat
concat-one l = append-nil l

module _ (t : List ℕ) (size width : ℕ) where
  pub rails-none : rails_to t size width 0 ≡ []
  unfolding rails_to concat count_from
  rails-none = refl

  pub rails-more : (i : ℕ) → rails_to t size width (i + 1) ≡ rails_to t size width i ++ rails_at_in t size width i
  unfolding rails_to
  rails-more i =
      let e : up_to (i + 1) ≡ up_to i ++ (i ∷ []) = ap up_to (add-one i) ∙ count-snoc 0 i ∙ ap (λ n. up_to i ++ (n ∷ [])) (omega arith) in
      ap (λ l. concat (map (rails_at_in t size width) l)) e
      ∙ ap concat (map-append (rails_at_in t size width) (up_to i) (i ∷ []))
      ∙ concat-append (map (rails_at_in t size width) (up_to i)) (rails_at_in t size width i ∷ [])
      ∙ ap (λ l. rails_to t size width i ++ l) (concat-one (rails_at_in t size width i))

  pub rails-short : (i : ℕ) → length (rails_at_in t size width i) ≤ 4
  unfolding rails_at_in
  rails-short i =
      let a = number_in t size i in
      omega (arith, length-append (rail_of (number_in t size i) (beside_in t size width i)) (rail_of (number_in t size i) (number_in t size (i + width))), rail-short (number_in t size i) (beside_in t size width i), rail-short (number_in t size i) (number_in t size (i + width)))
