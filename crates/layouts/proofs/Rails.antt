-- A pair of bays is a rail of the map exactly if their cells are side by side or one above the other, lower bay first.
use mathlib.Core.Path.{◌≡◌, sym, ◌∙◌, ap, ap₂}
use mathlib.Core.Bool.{true}
use mathlib.Core.List.{List, ◌++◌, map}
use mathlib.Core.Logic.{◌↔◌, ◌⊎◌, inl, inr, ⊎_elim}
use mathlib.Core.Option.{some}
use Prim.Native.Nat.{ℕ, zero, suc, ◌<◌, ◌≤◌, ◌+◌, ◌*◌, ◌/◌, ◌%◌}
use native.Mathlib.Omega.{arith}
use native.Mathlib.Nat.{add-mul, mod-lt, mod-add-div', div-lt_iff_lt-mul, add-div_right, mul-add-div_right, div-eq_of_lt}
use lib.Dec.{ltb}
use lib.ListN.{length}
use borrow.Author.Tests.{ltb-true, ltb-false, lt-ltb}
use Rattle.paper.specs.Basics.{◌and◌, concat, count_from}
use Rattle.paper.specs.Yard.{Bay, Rail}
use Rattle.paper.specs.Text.{Text, good}
use Rattle.paper.specs.Map.{Grid, read_map, cells, bay_at, number_at, bay_in, rails_at, rail_ends}
use Rattle.paper.specs.Docket.{rails_of}
use Rattle.paper.proofs.Tests.{by_cases, and_left, and_right, and_both}
use Rattle.gridmap.proofs.Good.{map-sized}
use Rattle.layouts.specs.Orders.{Among, Beside}
use Rattle.layouts.proofs.Numbers.{bay-inside, cell-of, cell-is}

module _ (G : Grid) (r : Rail) where
  -- a rail of which the cell j is the lower bay: to the one beside it, or to the one below
  abbrev CellRail : ℕ → Type 0
  CellRail j =
      (bay_at G j ≡ true)
      × (((suc (j % G.width) < G.width) × (bay_at G (suc j) ≡ true) × (r ≡ (number_at G j, number_at G (suc j))))
      ⊎ ((bay_at G (j + G.width) ≡ true) × (r ≡ (number_at G j, number_at G (j + G.width)))))

  of-cell : (i : ℕ) (rest : List Bay) → Among r (rails_of (rails_at G i ++ rest)) → CellRail i ⊎ Among r (rails_of rest)
  unfolding rails_at rails_of
  of-cell i rest m =
      by_cases (bay_at G i)
      (λ h. by_cases (ltb (suc (i % G.width)) G.width and bay_at G (suc i))
      (λ b.
      let side : (suc (i % G.width) < G.width) × (bay_at G (suc i) ≡ true) = (ltb-true _ _ (and_left _ _ b), and_right _ _ b) in
      by_cases (bay_at G (i + G.width))
      (λ d.
      let n : ((number_at G i, number_at G (suc i)) ≡ r) ⊎ (((number_at G i, number_at G (i + G.width)) ≡ r) ⊎ Among r (rails_of rest)) = rw (h, b, d) at m in
      ⊎_elim (λ e. inl (h, inl (side.0, side.1, sym e))) (λ k. ⊎_elim (λ e. inl (h, inr (d, sym e))) (λ q. inr q) k) n)
      (λ d.
      let n : ((number_at G i, number_at G (suc i)) ≡ r) ⊎ Among r (rails_of rest) = rw (h, b, d) at m in
      ⊎_elim (λ e. inl (h, inl (side.0, side.1, sym e))) (λ q. inr q) n))
      (λ b. by_cases (bay_at G (i + G.width))
      (λ d.
      let n : ((number_at G i, number_at G (i + G.width)) ≡ r) ⊎ Among r (rails_of rest) = rw (h, b, d) at m in
      ⊎_elim (λ e. inl (h, inr (d, sym e))) (λ q. inr q) n)
      (λ d. inr (rw (h, b, d) at m))))
      (λ h. inr (rw h at m))

  cell-of-rest : (i : ℕ) (rest : List Bay) → Among r (rails_of rest) → Among r (rails_of (rails_at G i ++ rest))
  unfolding rails_at rails_of
  cell-of-rest i rest m =
      by_cases (bay_at G i)
      (λ h. by_cases (ltb (suc (i % G.width)) G.width and bay_at G (suc i))
      (λ b. by_cases (bay_at G (i + G.width)) (λ d. rw (h, b, d) (inr (inr m))) (λ d. rw (h, b, d) (inr m)))
      (λ b. by_cases (bay_at G (i + G.width)) (λ d. rw (h, b, d) (inr m)) (λ d. rw (h, b, d) m)))
      (λ h. rw h m)

  cell-has : (i : ℕ) (rest : List Bay) → CellRail i → Among r (rails_of (rails_at G i ++ rest))
  unfolding rails_at rails_of
  cell-has i rest c =
      let h = c.0 in
      ⊎_elim
      (λ k.
      let b : ltb (suc (i % G.width)) G.width and bay_at G (suc i) ≡ true = and_both _ _ (lt-ltb _ _ k.0) k.1 in
      by_cases (bay_at G (i + G.width)) (λ d. rw (h, b, d) (inl (sym k.2))) (λ d. rw (h, b, d) (inl (sym k.2))))
      (λ k.
      let d = k.0 in
      by_cases (ltb (suc (i % G.width)) G.width and bay_at G (suc i))
      (λ b. rw (h, b, d) (inr (inl (sym k.1))))
      (λ b. rw (h, b, d) (inl (sym k.1))))
      c.1

  from-cells : (k i : ℕ) → Among r (rails_of (concat (map (rails_at G) (count_from i k)))) → (j : ℕ) × (j < i + k) × CellRail j
  unfolding count_from concat rails_of
  from-cells zero i m = absurd m
  from-cells (suc k) i m =
      ⊎_elim
      (λ c. (i, omega arith, c))
      (λ q. let t = from-cells k (suc i) q in (t.0, omega (arith, t.1), t.2))
      (of-cell i (concat (map (rails_at G) (count_from (suc i) k))) m)

  to-cells : (k i j : ℕ) → i ≤ j → j < i + k → CellRail j → Among r (rails_of (concat (map (rails_at G) (count_from i k))))
  unfolding count_from concat
  to-cells zero i j l u c = absurd (omega arith)
  to-cells (suc k) i j l u c =
      by_cases (ltb i j)
      (λ e.
      let b = ltb-true i j e in
      cell-of-rest i (concat (map (rails_at G) (count_from (suc i) k))) (to-cells k (suc i) j (omega arith) (omega arith) c))
      (λ e.
      let z : j ≡ i = let b = ltb-false i j e in omega arith in
      cell-has i (concat (map (rails_at G) (count_from (suc i) k))) (rw z at c))

-- ## Columns and rows

module _ (G : Grid) (full : length (cells G) ≡ G.height * G.width) where
  abbrev W : ℕ
  W = G.width

  some-width : (j : ℕ) → j < G.height * W → 0 < W
  some-width j l =
      by_cases (ltb 0 W)
      (λ e. ltb-true _ _ e)
      (λ e.
      let z : W ≡ 0 = let b = ltb-false 0 W e in omega arith in
      let n : j < G.height * 0 = rw z at l in
      absurd (omega arith))

  inside-grid : (i : ℕ) → bay_at G i ≡ true → i < G.height * W
  inside-grid i h = rw full at (bay-inside G i h)

  next_row : (y : ℕ) → suc y * W ≡ W + y * W
  next_row y =
      let one : suc y ≡ 1 + y = omega arith in
      let p : suc y * W ≡ 1 * W + y * W = ap (λ t. t * W) one ∙ add-mul 1 y W in
      omega arith

  -- the cell at column x and row y
  column : (x y : ℕ) → x < W → (y * W + x) % W ≡ x
  column x y l =
      let pos : 0 < W = omega arith in
      let q : (y * W + x) / W ≡ y + x / W = mul-add-div_right pos y x in
      let z : x / W ≡ 0 = div-eq_of_lt l in
      let d : (y * W + x) / W ≡ y = q ∙ ap (λ t. y + t) z ∙ omega arith in
      let s : (y * W + x) % W + (y * W + x) / W * W ≡ y * W + x = mod-add-div' (y * W + x) W in
      let t : (y * W + x) % W + y * W ≡ y * W + x = rw d at s in
      omega arith

  pub rail-exactly : (a b : Bay) → Among (a, b) (rails_of (rail_ends G)) ↔ Beside G a b
  unfolding rail_ends
  rail-exactly a b = (to, from)
    where
      to : Among (a, b) (rails_of (rail_ends G)) → Beside G a b
      to m =
          let t = from-cells G (a, b) (length (cells G)) 0 m in
          let j = t.0 in
          let c = t.2 in
          let inside : j < G.height * W = inside-grid j c.0 in
          let pos : 0 < W = some-width j inside in
          let x = j % W in
          let y = j / W in
          let k : x < W = mod-lt j pos in
          let l : y < G.height = (div-lt_iff_lt-mul pos).1 inside in
          let e : y * W + x ≡ j = let s = mod-add-div' j W in omega arith in
          let here : bay_in G x y ≡ some (number_at G j) = cell-is G x y j e k l c.0 in
          ⊎_elim
          (λ s.
          let f : y * W + suc x ≡ suc j = omega arith in
          let first : number_at G j ≡ a = ap (λ p. p.0) (sym s.2) in
          let second : number_at G (suc j) ≡ b = ap (λ p. p.1) (sym s.2) in
          (x, y, here ∙ ap some first, inl (cell-is G (suc x) y (suc j) f s.0 l s.1 ∙ ap some second)))
          (λ s.
          let below : j + W < G.height * W = inside-grid (j + W) s.0 in
          let n : (j + W) / W ≡ j / W + 1 = add-div_right j pos in
          let u : (j + W) / W < G.height = (div-lt_iff_lt-mul pos).1 below in
          let v : suc y < G.height = omega (arith, n, u) in
          let w = next_row y in
          let f : suc y * W + x ≡ j + W = omega (arith, w, e) in
          let first : number_at G j ≡ a = ap (λ p. p.0) (sym s.1) in
          let second : number_at G (j + W) ≡ b = ap (λ p. p.1) (sym s.1) in
          (x, y, here ∙ ap some first, inr (cell-is G x (suc y) (j + W) f k v s.0 ∙ ap some second)))
          c.1

      found : (j : ℕ) → CellRail G (a, b) j → Among (a, b) (rails_of (rail_ends G))
      found j c = to-cells G (a, b) (length (cells G)) 0 j (omega arith) (let l = bay-inside G j c.0 in omega arith) c

      from : Beside G a b → Among (a, b) (rails_of (rail_ends G))
      from s =
          let x = s.0 in
          let y = s.1 in
          let c = cell-of G x y a s.2 in
          let j = y * W + x in
          ⊎_elim
          (λ h.
          let d = cell-of G (suc x) y b h in
          let f : y * W + suc x ≡ suc (y * W + x) = omega arith in
          let col : (y * W + x) % W ≡ x = column x y c.0 in
          let wide : suc ((y * W + x) % W) < W = rw col d.0 in
          found (y * W + x)
          (c.2, inl (wide, ap (bay_at G) (sym f) ∙ d.2, ap₂ (λ p q. (p, q)) (sym c.3) (sym (ap (number_at G) (sym f) ∙ d.3)))))
          (λ h.
          let d = cell-of G x (suc y) b h in
          let w = next_row y in
          let f : suc y * W + x ≡ y * W + x + W = omega arith in
          found (y * W + x)
          (c.2, inr (ap (bay_at G) (sym f) ∙ d.2, ap₂ (λ p q. (p, q)) (sym c.3) (sym (ap (number_at G) (sym f) ∙ d.3)))))
          s.3

-- Of every map that is read.
pub map-rails : (bs : Text) (G : Grid) → read_map bs ≡ good G → (a b : Bay) → Among (a, b) (rails_of (rail_ends G)) ↔ Beside G a b
map-rails bs G h = rail-exactly G (map-sized bs G h).full
