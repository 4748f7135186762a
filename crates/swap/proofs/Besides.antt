-- Where two neighbours of r's bay other than s's are empty, that bay is a junction and the nearest: nobody is brought, nobody is moved out
-- of the way, and nothing is undone. The swap is the exchange alone.
-- Assumes nothing.
use Rattle.std.proofs.lemmas.Option.{same_Some}
use Rattle.std.proofs.Common.{None, Some}
use mathlib.Core.Path.{◌≡◌, sym, ◌∙◌, ap, refl}
use mathlib.Core.Bool.{true, not}
use mathlib.Core.List.{List, [], ◌∷◌}
use mathlib.Core.Option.{some}
use Prim.Native.Nat.{ℕ, ◌≤◌, ◌<◌, min, max}
use native.Mathlib.Omega.{arith}
use native.Mathlib.Decide.{dec_lt}
use lib.Dec.{eqb}
use lib.ListN.{length}
use borrow.Author.Tests.{eqb-false, le-leb, not-true}
use Rattle.paper.specs.Basics.{◌and◌, ◌or◌, place_of, up_to, In, Out}
use Rattle.paper.specs.Procedure.{only, exchange, undo, bring, clear_once, gone_on, clear, finish, trial_led, trial, swap}
use Rattle.paper.specs.Yard.{Bay, Carrier, bay_of, reverse_of, after, joined, neighbours, junction}
use Rattle.paper.proofs.Members.{In-head, In-tail, in-filter}
use Rattle.paper.proofs.Playing.{place_of-bay, place_of-there, bay-in}
use Rattle.paper.proofs.Rings.{ring-zero, in-concat}
use Rattle.paper.proofs.Swapping.{once-clears}
use Rattle.paper.proofs.Tests.{not-both, never, and_left, and_right, and_both}
use Rattle.words.specs.Sets.{mem, words, span, mem_row, Lowest}
use Rattle.words.proofs.Sets.{zeros, row_zero}
use Rattle.rings.proofs.Searching.{ring-first}
use Rattle.rings.specs.Search.{around}
use Rattle.moving.specs.Placed.{Placed}
use Rattle.acting.specs.Acting.{Tabled}
use Rattle.seek.proofs.FromBelow.{lowest-in, clear-two, around-of, inside_of, inside-less}
use Rattle.seek.specs.FromBelow.{Beside, Near}
use Rattle.seek.proofs.FromBelow.{in-bays}
use Rattle.seek.proofs.FromBelow.{path-own, trial-first}
use Rattle.seek.specs.FromBelow.{fitting}
use Rattle.seek.proofs.FromBelow.{Sought, swap-found, sought-found, near_of}
use Rattle.docket.specs.declared.Bay.{Bay as Numbered}
use Rattle.swap.specs.Swapping.{TwoSpare, SpareSays}

-- ## The two lowest

module _ (table empty row others fewer : List ℕ) (u w : ℕ) {x y : ℕ} (f : (b : ℕ) → b < span → mem row b ≡ mem (zeros words) b or mem_row table u b)
    (g : (b : ℕ) → mem others b ≡ mem row b and not (eqb b w)) (l : Lowest (λ b. mem_row others 0 b and mem_row empty 0 b) 0 span x) (hx : x < span)
    (h : (b : ℕ) → mem fewer b ≡ mem others b and not (eqb b x)) (m : Lowest (λ b. mem_row fewer 0 b and mem_row empty 0 b) 0 span y) (hy : y < span) where
  lower-first : x < y
  lower-first =
      let there : mem others y and not (eqb y x) ≡ true = sym (h y) ∙ sym (row_zero fewer y) ∙ and_left _ _ (m.hit hy) in
      let other : y ≡ x → ⊥ = eqb-false y x (not-true (eqb y x) (and_right _ _ there)) in
      elim (dec_lt x y) [
        | yes q ↦ q
        | no q ↦ not-both (and_both _ _ (row_zero others y ∙ and_left _ _ there) (and_right _ _ (m.hit hy))) (l.before y (omega arith) (omega arith))
      ]

  pub two-spare : TwoSpare table empty u w x y
  two-spare = record {
    rising = lower-first;
    kept = λ t most hu k.
        let i = inside_of t u w row others hu f g in
        clear-two (around-of t u w row others most hu f g) most k l (lowest-in empty i l hx) fewer h m (lowest-in empty (inside-less i x fewer h) m hy);
  }

-- what is said of them
pub both-spare : {table empty : List ℕ} {u w : Bay} (x y : Numbered) → TwoSpare table empty u w x.0 y.0 → SpareSays table empty u w (Some (x, y))
both-spare x y two = record { both = λ a b e. let q = same_Some _ _ e in let first : x ≡ a = ap (λ t. t.0) q in let second : y ≡ b = ap (λ t. t.1) q in rw (first, second) at two }

pub fewer-spare : {table empty : List ℕ} {u w : Bay} → SpareSays table empty u w None
fewer-spare = record { both = λ a b e. never (cc) }

-- ## The swap

three-in : (l : List ℕ) (a b c : ℕ) → In a l → In b l → In c l → (a ≡ b → ⊥) → (a ≡ c → ⊥) → (b ≡ c → ⊥) → 3 ≤ length l
three-in l a b c ia ib ic ab ac bc =
    let ha : place_of a l < length l = place_of-there l a ia in
    let hb : place_of b l < length l = place_of-there l b ib in
    let hc : place_of c l < length l = place_of-there l c ic in
    let pab : place_of a l ≡ place_of b l → ⊥ = λ e. ab (sym (place_of-bay l a ia) ∙ ap (bay_of l) e ∙ place_of-bay l b ib) in
    let pac : place_of a l ≡ place_of c l → ⊥ = λ e. ac (sym (place_of-bay l a ia) ∙ ap (bay_of l) e ∙ place_of-bay l c ic) in
    let pbc : place_of b l ≡ place_of c l → ⊥ = λ e. bc (sym (place_of-bay l b ib) ∙ ap (bay_of l) e ∙ place_of-bay l c ic) in
    omega arith

module _ {n : ℕ} {table : List ℕ} (t : Tabled n table) {p standing empty : List ℕ} (k : Placed n p standing empty) (most : n ≤ span) {r s : Carrier} (hr : r < length p) (hs : s < length p)
    (b : Beside t.yard r s p) {x y : Bay} (two : TwoSpare table empty (bay_of p r) (bay_of p s) x y) where
  abbrev u : Bay
  u = bay_of p r

  abbrev w : Bay
  w = bay_of p s

  home : In u (up_to t.yard.bays)
  home = in-bays t (k.inside r hr)

  cleared : clear_once t.yard u w p ≡ record { made = only []; kept = x ∷ y ∷ [] }
  cleared = two.kept t most (k.inside r hr) k

  empty-beside : (z : Bay) → In z (x ∷ y ∷ []) → (joined t.yard u z ≡ true) × Out z p
  unfolding after
  empty-beside z i =
      let c = once-clears t.yard b.sound u w p k.apart in
      (rw cleared at c).kept_empty z i

  fx : (joined t.yard u x ≡ true) × Out x p
  fx = empty-beside x (In-head x (y ∷ []))

  fy : (joined t.yard u y ≡ true) × Out y p
  fy = empty-beside y (In-tail y x (y ∷ []) (In-head y []))

  own-junction : junction t.yard u ≡ true
  unfolding junction neighbours
  own-junction =
      let there : (z : Bay) → joined t.yard u z ≡ true → In z (neighbours t.yard u) =
      λ z j. in-filter (joined t.yard u) (up_to t.yard.bays) z (b.sound.inside u z j) j in
      let stands : In w p = bay-in p s hs in
      le-leb 3 _ (three-in (neighbours t.yard u) w x y (there w b.beside) (there x fx.0) (there y fy.0)
      (λ e. not-both stands (rw e fx.1)) (λ e. not-both stands (rw e fy.1)) (λ e. omega (arith, two.rising)))

  in-ring : In u (around t.yard [] u 0)
  in-ring = rw (ring-first t.yard [] u (omega (arith, t.joins.bays, k.inside r hr))) (In-head u [])

  near : Near t.yard r s u p
  near = near_of b (in-concat t.yard u _ 0 in-ring)

  own-led : trial_led t.yard r s u [] p ≡ some (only (exchange r s u w x y))
  unfolding trial_led bring clear gone_on after finish exchange undo reverse_of
  own-led =
      let lo : min x y ≡ x = omega (arith, two.rising) in
      let hi : max x y ≡ y = omega (arith, two.rising) in
      rw (cleared, lo, hi)

  own-trial : trial t.yard r s u p ≡ some (only (exchange r s u w x y))
  own-trial = trial-first near home home (path-own near home refl) (unfold ◌and◌ in refl) ∙ own-led

  own-fits : fitting t.yard r s p u ≡ true
  unfolding fitting
  own-fits = and_both _ _ own-junction (rw own-trial)

  first-sought : Sought t.yard r s p 0 u
  first-sought = record {
    rings-before = λ i c h. absurd (omega arith);
    below = λ c i h. let e : c ≡ u = ring-zero t.yard [] t.yard.bays [] u c i in absurd (omega arith);
  }

  pub swap-own : swap t.yard r s p ≡ some (only (exchange r s u w x y))
  swap-own = swap-found t.yard r s p ∙ rw (← sought-found t r s p 0 u first-sought in-ring own-fits) own-trial
