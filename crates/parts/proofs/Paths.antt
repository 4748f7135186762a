-- The beginning of a shortest path is the shortest path to the bay where it ends: with a shorter or lower way to that bay, the rest of the path
-- behind it would be a shorter or lower way to the path's end.
-- Assumes nothing.
use mathlib.Core.Path.{◌≡◌, refl, sym, ◌∙◌, ap}
use mathlib.Core.List.{List, [], ◌∷◌, ◌++◌}
use mathlib.Core.Logic.{inl, inr, ⊎_elim}
use Prim.Native.Nat.{ℕ, zero, suc, ◌<◌, ◌≤◌, ◌+◌}
use native.Mathlib.Omega.{arith}
use lib.ListN.{length, get_or, take, drop, length-append, take-append-drop}
use Rattle.paper.specs.Basics.{In}
use Rattle.paper.specs.Yard.{Bay, Yard}
use Rattle.paper.specs.Path.{Free, Route, Way, NotAbove, Shortest, nearest_first, shortest_path}
use Rattle.paper.proofs.Members.{nodup-take}
use Rattle.paper.proofs.Rings.{walk-free}
use Rattle.paper.proofs.Shortest.{route-walk, shortest-one, shortest-path, way-reached}

-- ## Lists of the same length

-- with the same rest behind both: if the whole is not above the other, its front is not above the other's
front-not-above : (s t z : List Bay) → length s ≡ length t → NotAbove (s ++ z) (t ++ z) → NotAbove s t
front-not-above [] t z e h = tt
front-not-above (a ∷ s) [] z e h = tt
front-not-above (a ∷ s) (b ∷ t) z e h = ⊎_elim (λ l. inl l) (λ k. inr (k.0, front-not-above s t z (omega arith) k.1)) h

-- ## Ways in two parts

module _ (Y : Yard) (held : List Bay) where
  route-join : (u : Bay) (l : List Bay) (x : Bay) (m : List Bay) (v : Bay) → Route Y held u l x → Route Y held x m v → Route Y held u (l ++ m) v
  route-join u [] x m v r s = rw r s
  route-join u (y ∷ l) x m v r s = (r.0, r.1, route-join y l x m v r.2 s)

  route-begins : (j : ℕ) (u : Bay) (l : List Bay) (v : Bay) → j ≤ length l → Route Y held u l v → Route Y held u (take j l) (get_or (u ∷ l) j 0)
  route-begins zero u l v h r = refl
  route-begins (suc j) u [] v h r = absurd (omega arith)
  route-begins (suc j) u (x ∷ l) v h r = (r.0, r.1, route-begins j x l v (omega arith) r.2)

  route-ends : (j : ℕ) (u : Bay) (l : List Bay) (v : Bay) → j ≤ length l → Route Y held u l v → Route Y held (get_or (u ∷ l) j 0) (drop j l) v
  route-ends zero u l v h r = r
  route-ends (suc j) u [] v h r = absurd (omega arith)
  route-ends (suc j) u (x ∷ l) v h r = route-ends j x l v (omega arith) r.2

  -- ## Shortest paths

  module _ (u v : Bay) where
    -- the first bays of a shortest list are the shortest to the last of them
    shortest-begins : (l : List Bay) → Shortest Y held u v (u ∷ l) → Route Y held u l v → (j : ℕ) → j ≤ length l
        → Shortest Y held u (get_or (u ∷ l) j 0) (u ∷ take j l)
    shortest-begins l s r j h =
        let x = get_or (u ∷ l) j 0 in
        let z = drop j l in
        let sum : length (take j l) + length z ≡ length l = sym (length-append (take j l) z) ∙ ap length (take-append-drop j l) in
        let further : (m : List Bay) → Way Y held u m x → Way Y held u (m ++ z) v =
        λ m w. record {
          rest = w.rest ++ z;
          starts = ap (λ t. t ++ z) w.starts;
          free = w.free;
          route = route-join u w.rest x z v w.route (route-ends j u l v h r);
        } in
        record {
          way = record { rest = take j l; starts = refl; free = s.way.free; route = route-begins j u l v h r };
          once = nodup-take (suc j) (u ∷ l) s.once;
          fewest = λ m w. let f = s.fewest (m ++ z) (further m w) in let k = length-append m z in omega arith;
          lowest = λ m w e.
              let k : length (m ++ z) ≡ length (u ∷ l) = length-append m z ∙ omega arith in
              let both : NotAbove (u ∷ (take j l ++ z)) (m ++ z) = rw (take-append-drop j l) (s.lowest (m ++ z) (further m w) k) in
              front-not-above (u ∷ take j l) m z (sym e) both;
        }

    -- The first bays of the shortest path, up to its bay j, are the shortest path to that bay; it is free, and u is reached from it.
    pub record Begins (j : ℕ) : Type 0 where
      pub same : take (suc j) (shortest_path Y held u v) ≡ shortest_path Y held u (get_or (shortest_path Y held u v) j 0)
      pub free : Free Y held (get_or (shortest_path Y held u v) j 0)
      pub reached : In u (nearest_first Y held (get_or (shortest_path Y held u v) j 0))

    pub path-begins : Free Y held u → Free Y held v → In u (nearest_first Y held v) → (j : ℕ) → j < length (shortest_path Y held u v) → Begins j
    path-begins free-u free-v i j h =
        let s = shortest-path Y held u v free-u free-v i in
        let l = s.way.rest in
        let e : shortest_path Y held u v ≡ u ∷ l = s.way.starts in
        let x = get_or (u ∷ l) j 0 in
        let at : get_or (shortest_path Y held u v) j 0 ≡ x = ap (λ t. get_or t j 0) e in
        let low : j ≤ length l = let k : length (shortest_path Y held u v) ≡ suc (length l) = ap length e in omega arith in
        let b : Shortest Y held u x (u ∷ take j l) = shortest-begins l (rw e at s) s.way.route j low in
        let free-x : Free Y held x = walk-free Y held free-u (route-walk Y held u (take j l) x (route-begins j u l v low s.way.route)) in
        let near : In u (nearest_first Y held x) = way-reached Y held u x (u ∷ take j l) b.way in
        let whole : u ∷ take j l ≡ shortest_path Y held u x =
        shortest-one Y held u x (u ∷ take j l) (shortest_path Y held u x) b (shortest-path Y held u x free-u free-x near) in
        record {
          same = ap (take (suc j)) e ∙ whole ∙ ap (shortest_path Y held u) (sym at);
          free = rw at free-x;
          reached = rw at near;
        }
