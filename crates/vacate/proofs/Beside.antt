-- Where empty bays that are not held are beside x, the choice among them is the nearest one, and the path to it is the one rail.
-- Assumes nothing.
use mathlib.Core.Path.{◌≡◌, refl}
use mathlib.Core.Bool.{true}
use mathlib.Core.List.{List, [], ◌∷◌}
use mathlib.Core.Logic.{inr, ⊎_elim}
use mathlib.Core.Option.{some}
use Prim.Native.Nat.{◌≤◌, ◌<◌}
use native.Mathlib.Omega.{arith}
use lib.ListN.{length}
use Rattle.paper.specs.Basics.{In, Out}
use Rattle.paper.specs.Yard.{Bay, Yard, Placement, joined, rails_at}
use Rattle.paper.specs.Path.{Free, Route, Way, Shortest, Rather, shortest_path}
use Rattle.paper.specs.Procedure.{nearest_empty}
use Rattle.paper.proofs.Members.{out-cons, nothing-in-nil}
use Rattle.paper.proofs.Nearest.{nearest-exactly}
use Rattle.paper.proofs.Shortest.{shortest-one, shortest-path, way-reached}
use Rattle.paper.proofs.Tests.{not-both}

module _ (Y : Yard) (held : List Bay) (x : Bay) where
  -- a way to another bay has two bays or more
  longer : (b : Bay) (l : List Bay) → (x ≡ b → ⊥) → Route Y held x l b → 2 ≤ length (x ∷ l)
  longer b [] ne r = absurd (ne r)
  longer b (y ∷ l) ne r = omega arith

  two : (b : Bay) (m : List Bay) → (x ≡ b → ⊥) → Way Y held x m b → 2 ≤ length m
  two b m ne w = rw w.starts (longer b w.rest ne w.route)

  -- a way of two bays is one rail
  one : (b : Bay) (l : List Bay) → length l ≡ 1 → Route Y held x l b → (l ≡ b ∷ []) × (joined Y x b ≡ true) × Free Y held b
  one b [] e r = absurd (omega arith)
  one b (y ∷ []) e r = rw (← r.2) (refl, r.0, r.1)
  one b (y ∷ z ∷ l) e r = absurd (omega arith)

  module _ (p : Placement) (e : Bay) (free-x : Free Y held x) (full : In x p) (rail : joined Y x e ≡ true) (free-e : Free Y held e) (empty : Out e p) where
    other : (b : Bay) → Out b p → x ≡ b → ⊥
    other b o q = not-both (rw q at full) o

    way : Way Y held x (x ∷ e ∷ []) e
    way = record { rest = e ∷ []; starts = refl; free = free-x; route = (rail, free-e, refl) }

    pub beside-nearest : ((b : Bay) → joined Y x b ≡ true → Free Y held b → Out b p → Rather (rails_at Y) e b) → nearest_empty Y held p x ≡ some e
    beside-nearest rather =
        let as-near : (b : Bay) (m : List Bay) → Out b p → Way Y held x m b → length m ≡ 2 → Rather (rails_at Y) e b =
        λ b m o w s.
        let k : length w.rest ≡ 1 = let h = rw w.starts at s in omega arith in
        let t = one b w.rest k w.route in
        rather b t.1 t.2 o in
        (nearest-exactly Y held p x free-x e).1 (record {
          empty = empty;
          path = x ∷ e ∷ [];
          way = way;
          nearest = λ b m o w. two b m (other b o) w;
          fewest = λ b m o w s. ⊎_elim (λ l. omega arith) (λ l. omega (arith, l.0)) (as-near b m o w s);
          lowest = λ b m o w s k. ⊎_elim (λ l. absurd (omega arith)) (λ l. l.1) (as-near b m o w s);
        })

    short : Shortest Y held x e (x ∷ e ∷ [])
    short = record {
      way = way;
      once = (out-cons x e [] (other e empty) (nothing-in-nil x), (nothing-in-nil e, tt));
      fewest = λ m w. two e m (other e empty) w;
      lowest = λ m w s.
          let k : length w.rest ≡ 1 = let h = rw w.starts at s in omega arith in
          let t = one e w.rest k w.route in
          rw (w.starts, t.0) (inr (refl, inr (refl, tt)));
    }

    pub beside-path : x ∷ e ∷ [] ≡ shortest_path Y held x e
    beside-path = shortest-one Y held x e (x ∷ e ∷ []) (shortest_path Y held x e) short (shortest-path Y held x e free-x free-e (way-reached Y held x e (x ∷ e ∷ []) way))
