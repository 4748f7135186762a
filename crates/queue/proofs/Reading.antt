-- The path back is read from its end: what was read stands behind the place of the bay that is read next.
-- Assumes nothing.
use mathlib.Core.Path.{◌≡◌, sym, ap, ◌∙◌}
use mathlib.Core.List.{List, [], ◌∷◌}
use Prim.Native.Nat.{ℕ, suc, ◌+◌, ◌-◌, ◌≤◌, ◌<◌}
use native.Mathlib.Numerals.{add-one}
use native.Mathlib.Omega.{arith}
use lib.ListN.{length, get_or, set, take, drop, length-set}
use lib.Seq.{drop-cons, drop-set-lt, get_or-set_same}
use Rattle.queue.specs.Meeting.{back}

module _ (before path : List ℕ) (d i u : ℕ) where
  -- the path's bays behind place i are in the room, and u is the bay at place i
  abbrev behind : List ℕ
  behind = take (d - i) (drop (i + 1) path)

  pub read_first : i ≡ d → back before d u [] ≡ back before i u behind
  read_first e = let z : d - i ≡ 0 = omega arith in rw (z, e)

  module _ (far : d < length path) (low : i ≤ d) where
    -- u goes to its place
    kept : take (suc (d - i)) (drop i (set path i u)) ≡ u ∷ behind
    kept =
        let there : i < length path = omega arith in
        let size : i < length (set path i u) = simp length-set there in
        rw (drop-cons (set path i u) i 0 size, get_or-set_same path i u 0 there, drop-set-lt (suc i) path i u (omega arith), add-one)

    pub read_more : 0 < i → back before i u behind ≡ back before (i - 1) (get_or before u 0) (take (d - (i - 1)) (drop (i - 1 + 1) (set path (i - 1 + 1) u)))
    unfolding back
    read_more h =
        let e : i ≡ suc (i - 1) = omega arith in
        let f : d - (i - 1) ≡ suc (d - i) = omega arith in
        let g : i - 1 + 1 ≡ i = omega arith in
        rw (f, g, kept) (ap (λ (k : ℕ). back before k u behind) e)

    pub read_all : i ≡ 0 → take (d + 1) (set path 0 u) ≡ back before i u behind
    unfolding back
    read_all e =
        let z : d + 1 ≡ suc (d - i) = omega arith in
        let all : take (d + 1) (set path 0 u) ≡ take (suc (d - i)) (drop i (set path i u)) = rw (z, e) in
        all ∙ kept ∙ sym (ap (λ (k : ℕ). back before k u behind) e)
