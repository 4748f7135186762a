-- A map's rails are held as the document says: lower bay first, in rising order of lower, then higher bay. Bays are numbered in the
-- order of their cells, and of a cell's own rails the one to the cell beside it leads to the lower bay.
use Rattle.std.specs.Prelude.{if◌then◌else◌}
use mathlib.Core.Path.{◌≡◌, refl, ◌∙◌, ap}
use mathlib.Core.Bool.{true, false}
use mathlib.Core.List.{List, [], ◌∷◌, map}
use mathlib.Core.Logic.{◌⊎◌, inl, inr}
use Prim.Native.Nat.{ℕ, zero, suc, ◌<◌, ◌≤◌, ◌+◌, ◌-◌, ◌%◌}
use native.Mathlib.Omega.{arith}
use lib.Dec.{ltb}
use lib.ListN.{length, get_or, take}
use borrow.Author.Tests.{ltb-true}
use Rattle.paper.specs.Basics.{◌and◌, concat, count_from, up_to, ◌or◌}
use Rattle.paper.specs.Yard.{Rail}
use Rattle.paper.specs.Text.{Text, count}
use Rattle.paper.specs.Map.{Grid, bay_letter, cells, bay_at, number_at, rails_at, rail_ends}
use Rattle.paper.specs.Docket.{rails_of}
use Rattle.paper.proofs.Tests.{by_cases, and_left, and_right}

-- after the rail from a to b, each rail is later in the order and leads from its lower bay
pub RiseAfter : ℕ → ℕ → List Rail → Type 0
RiseAfter a b [] = Unit {0}
RiseAfter a b (r ∷ rs) = ((a < r.0) ⊎ ((a ≡ r.0) × (b < r.1))) × (r.0 < r.1) × RiseAfter r.0 r.1 rs

-- the same from the first rail on, whose lower bay is n or more
pub Rise : ℕ → List Rail → Type 0
Rise n [] = Unit {0}
Rise n (r ∷ rs) = (n ≤ r.0) × (r.0 < r.1) × RiseAfter r.0 r.1 rs

rise-after : (a b : ℕ) (rs : List Rail) → Rise (suc a) rs → RiseAfter a b rs
unfolding Rise RiseAfter
rise-after a b [] h = tt
rise-after a b (r ∷ rs) h = (inl (omega (arith, h.0)), h.1, h.2)

rise-lower : (m n : ℕ) (rs : List Rail) → m ≤ n → Rise n rs → Rise m rs
unfolding Rise
rise-lower m n [] l h = tt
rise-lower m n (r ∷ rs) l h = (omega (arith, h.0), h.1, h.2)

-- one letter more, within the text or beyond it
count-more : (l : Text) (i : ℕ)
    → count bay_letter (take (suc i) l) ≡ (if bay_letter (get_or l i 64) then suc (count bay_letter (take i l)) else count bay_letter (take i l))
unfolding count bay_letter ◌or◌
count-more [] zero = refl
count-more [] (suc i) = refl
count-more (b ∷ l) zero = refl
count-more (b ∷ l) (suc i) =
    let ih = count-more l i in
    by_cases (bay_letter b)
    (λ e. by_cases (bay_letter (get_or l i 64)) (λ k. rw (e, k) (ap suc (ih ∙ rw k))) (λ k. rw (e, k) (ap suc (ih ∙ rw k))))
    (λ e. by_cases (bay_letter (get_or l i 64)) (λ k. rw (e, k) (ih ∙ rw k)) (λ k. rw (e, k) (ih ∙ rw k)))

module _ (G : Grid) where
  number-bay : (i : ℕ) → bay_at G i ≡ true → number_at G (suc i) ≡ suc (number_at G i)
  unfolding number_at bay_at
  number-bay i h = count-more (cells G) i ∙ rw h

  number-wall : (i : ℕ) → bay_at G i ≡ false → number_at G (suc i) ≡ number_at G i
  unfolding number_at bay_at
  number-wall i h = count-more (cells G) i ∙ rw h

  number-rises : (i k : ℕ) → number_at G i ≤ number_at G (i + k)
  number-rises i zero = let e : i + 0 ≡ i = omega arith in rw e (omega arith)
  number-rises i (suc k) =
      let ih = number-rises i k in
      let e : i + suc k ≡ suc (i + k) = omega arith in
      by_cases (bay_at G (i + k))
      (λ h. rw (e, number-bay (i + k) h) (omega arith))
      (λ h. rw (e, number-wall (i + k) h) ih)

  module _ (wide : 1 ≤ G.width) where
    -- the bay below is higher, and higher than the bay beside where there is one
    below-higher : (i : ℕ) → bay_at G i ≡ true → number_at G i < number_at G (i + G.width)
    below-higher i h =
        let e : suc i + (G.width - 1) ≡ i + G.width = omega arith in
        let m = rw e at (number-rises (suc i) (G.width - 1)) in
        let n = number-bay i h in
        omega arith

    beside-lower : (i : ℕ) → suc (i % G.width) < G.width → bay_at G (suc i) ≡ true → number_at G (suc i) < number_at G (i + G.width)
    beside-lower i l h =
        let e : suc (suc i) + (G.width - 2) ≡ i + G.width = omega arith in
        let m = rw e at (number-rises (suc (suc i)) (G.width - 2)) in
        let n = number-bay (suc i) h in
        omega arith

    from_cell : (k i : ℕ) → Rise (number_at G i) (rails_of (concat (map (rails_at G) (count_from i k))))
    unfolding count_from concat rails_at rails_of Rise RiseAfter
    from_cell zero i = tt
    from_cell (suc k) i =
        let ih = from_cell k (suc i) in
        let rest = concat (map (rails_at G) (count_from (suc i) k)) in
        by_cases (bay_at G i)
        (λ h.
        let later : Rise (suc (number_at G i)) (rails_of rest) = rw (number-bay i h) at ih in
        let step : number_at G (suc i) ≡ suc (number_at G i) = number-bay i h in
        by_cases (ltb (suc (i % G.width)) G.width and bay_at G (suc i))
        (λ b.
        let low = beside-lower i (ltb-true _ _ (and_left _ _ b)) (and_right _ _ b) in
        by_cases (bay_at G (i + G.width))
        (λ d. rw (h, b, d) (omega arith, omega arith, (inr (refl, low), below-higher i h, rise-after (number_at G i) (number_at G (i + G.width)) (rails_of rest) later)))
        (λ d. rw (h, b, d) (omega arith, omega arith, rise-after (number_at G i) (number_at G (suc i)) (rails_of rest) later)))
        (λ b. by_cases (bay_at G (i + G.width))
        (λ d. rw (h, b, d) (omega arith, below-higher i h, rise-after (number_at G i) (number_at G (i + G.width)) (rails_of rest) later))
        (λ d. rw (h, b, d) (rise-lower (number_at G i) (suc (number_at G i)) (rails_of rest) (omega arith) later))))
        (λ h. rw h (rw (number-wall i h) at ih))

    pub rails-rise : Rise 0 (rails_of (rail_ends G))
    unfolding rail_ends
    rails-rise = rise-lower 0 (number_at G 0) (rails_of (concat (map (rails_at G) (up_to (length (cells G)))))) (omega arith) (from_cell (length (cells G)) 0)
