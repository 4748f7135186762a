-- The numbers that `gridmap::read` leaves are those of the map: a cell has a number if it is a bay, and then one more than the bays
-- before it. So rails and bays by the numbers are the map's.
use Rattle.std.specs.Prelude.{if◌then◌else◌}
use mathlib.Core.Path.{◌≡◌, refl, sym, ◌∙◌, ap}
use mathlib.Core.Bool.{Bool, true, false}
use mathlib.Core.List.{List, [], ◌∷◌, ◌++◌, map}
use mathlib.Core.Option.{none}
use Prim.Native.Nat.{ℕ, zero, suc, ◌+◌, ◌-◌, ◌*◌, ◌%◌, ◌≤◌, ◌<◌}
use native.Mathlib.Omega.{arith}
use native.Mathlib.Numerals.{add-one}
use lib.Dec.{eqb, ltb}
use lib.ListN.{length, get_or, take, drop, get_or-append, get_or-eq_default}
use lib.Seq.{sets, sets-eq}
use borrow.Author.Tests.{ne_eqb, ltb-true, ltb-false}
use Rattle.paper.specs.Basics.{◌and◌, ◌or◌, concat, up_to}
use Rattle.paper.specs.Text.{Text, count}
use Rattle.paper.specs.Map.{Grid, bay_letter, cells, bay_at, number_at, bay_in, rails_at, rail_ends}
use Rattle.paper.proofs.Tests.{by_cases}
use Rattle.gridmap.specs.Cells.{mark_of, count_with, numbering, number_in, beside_in, rail_of, rails_at_in, rails_to, rails_in, numbered, bay_found}
use Rattle.gridmap.proofs.Numbering.{count-step}
use Rattle.gridmap.proofs.Good.{Sized}

wall-is : bay_letter 64 ≡ false
unfolding bay_letter ◌or◌
wall-is = refl

mark-is : (b k : ℕ) → mark_of b k ≡ (if bay_letter b then suc (k + 0) else 0)
unfolding mark_of
mark-is b k = let e : k + 1 ≡ suc (k + 0) = omega arith in ap (λ n. if bay_letter b then n else 0) e

number_is : (k : ℕ) (l : Text) (i : ℕ) → get_or (numbering k l) i 0 ≡ (if bay_letter (get_or l i 64) then suc (k + count bay_letter (take i l)) else 0)
unfolding numbering count
number_is k [] i = rw wall-is
number_is k (b ∷ l) zero = mark-is b k
number_is k (b ∷ l) (suc i) =
    number_is (count_with b k) l i ∙ ap (λ n. if bay_letter (get_or l i 64) then suc n else 0) (count-step b k (take i l))

numbering-length : (k : ℕ) (l : Text) → length (numbering k l) ≡ length l
unfolding numbering
numbering-length k [] = refl
numbering-length k (b ∷ l) = ap suc (numbering-length (count_with b k) l)

-- a cell's number by the map
unfoldable pub numbered_at : Grid → ℕ → ℕ
numbered_at G i = if bay_at G i then suc (number_at G i) else 0

module _ (G : Grid) (i : ℕ) where
  number-bay : bay_at G i ≡ true → numbered_at G i ≡ suc (number_at G i)
  unfolding numbered_at
  number-bay e = rw e

  number-wall : bay_at G i ≡ false → numbered_at G i ≡ 0
  unfolding numbered_at
  number-wall e = rw e

rail-from-wall : (b : ℕ) → rail_of 0 b ≡ []
unfolding rail_of
rail-from-wall b = refl

rail-to-wall : (a : ℕ) → rail_of a 0 ≡ []
unfolding rail_of
rail-to-wall a = by_cases (eqb a 0) (λ e. rw e) (λ e. rw e)

rail-of-two : (a b : ℕ) → rail_of (suc a) (suc b) ≡ a ∷ b ∷ []
unfolding rail_of
rail-of-two a b =
    let e : suc a - 1 ≡ a = omega arith in
    let f : suc b - 1 ≡ b = omega arith in
    rw (ne_eqb (suc a) 0 (λ z. omega arith), ne_eqb (suc b) 0 (λ z. omega arith), e, f)

-- a rail to a cell that may be none
rail-by : (G : Grid) (a i : ℕ) → rail_of (suc a) (numbered_at G i) ≡ (if bay_at G i then a ∷ number_at G i ∷ [] else [])
rail-by G a i =
    by_cases (bay_at G i)
    (λ e. ap (rail_of (suc a)) (number-bay G i e) ∙ rail-of-two a (number_at G i) ∙ sym (rw e))
    (λ e. ap (rail_of (suc a)) (number-wall G i e) ∙ rail-to-wall (suc a) ∙ sym (rw e))

beside-by : (G : Grid) (a i : ℕ) (q : Bool) → rail_of (suc a) (if q then numbered_at G i else 0) ≡ (if q and bay_at G i then a ∷ number_at G i ∷ [] else [])
unfolding ◌and◌
beside-by G a i true = rail-by G a i
beside-by G a i false = rail-to-wall (suc a)

rails-by : (G : Grid) (i : ℕ) → (rail_of (numbered_at G i) (if ltb (suc (i % G.width)) G.width then numbered_at G (suc i) else 0) ++ rail_of (numbered_at G i) (numbered_at G (i + G.width))) ≡ rails_at G i
unfolding rails_at
rails-by G i =
    by_cases (bay_at G i)
    (λ e. rw (number-bay G i e, beside-by G (number_at G i) (suc i) (ltb (suc (i % G.width)) G.width), rail-by G (number_at G i) (i + G.width), e))
    (λ e. rw (number-wall G i e, rail-from-wall, rail-from-wall, e))

bay-by : (G : Grid) (x y : ℕ) → (if ltb x G.width then if ltb y G.height then numbered (numbered_at G (y * G.width + x)) else none else none) ≡ bay_in G x y
unfolding bay_in ◌and◌ numbered
bay-by G x y =
    by_cases (ltb x G.width)
    (λ e. by_cases (ltb y G.height)
    (λ f. by_cases (bay_at G (y * G.width + x))
    (λ g. rw (e, f, number-bay G (y * G.width + x) g, g))
    (λ g. rw (e, f, number-wall G (y * G.width + x) g, g)))
    (λ f. rw (e, f)))
    (λ e. rw e)

map_same : (f g : ℕ → List ℕ) → ((i : ℕ) → f i ≡ g i) → (l : List ℕ) → map f l ≡ map g l
map_same f g h [] = refl
map_same f g h (x ∷ l) = λ i. h x i ∷ map_same f g h l i

module _ (G : Grid) where
  at-cell : (i : ℕ) → get_or (numbering 0 (cells G)) i 0 ≡ numbered_at G i
  unfolding numbered_at bay_at number_at
  at-cell i =
      let e : 0 + count bay_letter (take i (cells G)) ≡ count bay_letter (take i (cells G)) = omega arith in
      number_is 0 (cells G) i ∙ ap (λ n. if bay_letter (get_or (cells G) i 64) then suc n else 0) e

  past-cells : (i : ℕ) → length (cells G) ≤ i → 0 ≡ numbered_at G i
  unfolding numbered_at bay_at
  past-cells i h = rw (get_or-eq_default (cells G) 64 {n = i} h, wall-is)

  module _ (s : Sized G) (before : List ℕ) (room : length (cells G) ≤ length before) where
    abbrev table : List ℕ
    table = sets before 0 (numbering 0 (cells G))

    abbrev size : ℕ
    size = G.height * G.width

    pub table_is : (i : ℕ) → number_in table size i ≡ numbered_at G i
    unfolding number_in
    table_is i =
        by_cases (ltb i size)
        (λ e.
        let h : i < length (numbering 0 (cells G)) = omega (arith, ltb-true i size e, s.full, numbering-length 0 (cells G)) in
        rw e (ap (λ l. get_or l i 0) (sets-eq (numbering 0 (cells G)) before 0 (omega (arith, numbering-length 0 (cells G)))) ∙ get_or-append (numbering 0 (cells G)) (drop (0 + length (numbering 0 (cells G))) before) 0 i h ∙ at-cell i))
        (λ e. rw e (past-cells i (omega (arith, ltb-false i size e, s.full))))

    rail-is : (i : ℕ) → rails_at_in table size G.width i ≡ rails_at G i
    unfolding rails_at_in beside_in
    rail-is i = rw (table_is i, table_is (i + G.width), table_is (i + 1), add-one i, add-one (i % G.width)) (rails-by G i)

    -- The rails by the numbers are the map's.
    pub rails-of-map : rails_in table G.height G.width ≡ rail_ends G
    unfolding rails_to rail_ends
    rails-of-map =
        ap concat (map_same (rails_at_in table size G.width) (rails_at G) rail-is (up_to size)) ∙ ap (λ k. concat (map (rails_at G) (up_to k))) (sym s.full)

    -- So are the bays.
    pub bay-of-map : (x y : ℕ) → bay_found table G.height G.width x y ≡ bay_in G x y
    unfolding bay_found
    bay-of-map x y = rw (table_is (y * G.width + x)) (bay-by G x y)
