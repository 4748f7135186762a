-- The nearest empty bay is what the document says: the rings come in the order of distance, and in the first that has an empty
-- bay the one with fewest rails is taken, and only then the lowest number.
use mathlib.Core.Path.{◌≡◌, refl, ◌∙◌, ap, sym}
use mathlib.Core.Bool.{true, false, not, Bool}
use mathlib.Core.List.{List, [], ◌∷◌, ◌++◌}
use mathlib.Core.Logic.{◌↔◌, ⊎_elim}
use mathlib.Core.Option.{none, some}
use Prim.Native.Nat.{ℕ, suc, ◌<◌, ◌≤◌}
use native.Mathlib.Omega.{arith}
use lib.Dec.{ltb}
use lib.ListN.{length, get_or, length-append}
use borrow.Author.Tests.{not-true, not-false, ltb-true, ltb-false}
use Rattle.paper.specs.Basics.{elem, In, Out, find}
use Rattle.paper.specs.Yard.{Bay, Yard, Placement, is_empty, joined, rails_at}
use Rattle.paper.specs.Path.{Free, Route, Way, Nearest, Rather, rings, nearest_first, nearest_of}
use Rattle.paper.specs.Procedure.{nearest_empty}
use Rattle.paper.proofs.Tests.{by_cases, by-option, not-both, never-some}
use Rattle.paper.proofs.Choosing.{Chosen}
use Rattle.paper.proofs.Rings.{Walk, here, on, ring-walk, walk-ring, FirstRing, first-ring, ring-first, rings_from-length, reached-walk, no-ring, ring-none}
use Rattle.paper.proofs.Reach.{enough}
use Rattle.paper.proofs.Shortest.{route-walk}

module _ (Y : Yard) (held : List Bay) where
  route-more : (u : Bay) (l : List Bay) (w v : Bay) → Route Y held u l w → joined Y w v ≡ true → Free Y held v → Route Y held u (l ++ (v ∷ [])) v
  route-more u [] w v r j f = (rw r j, f, refl)
  route-more u (x ∷ l) w v r j f = (r.0, r.1, route-more x l w v r.2 j f)

  -- a walk as the list of its bays
  walk-route : {u v : Bay} {d : ℕ} → Walk Y held u d v → (l : List Bay) × (length l ≡ d) × Route Y held u l v
  walk-route here = ([], refl, refl)
  walk-route (on {v = v} r j f) =
      let t = walk-route r in
      (t.0 ++ (v ∷ []), length-append t.0 (v ∷ []) ∙ (let e = t.1 in omega arith), route-more _ t.0 _ v t.2 j f)

  pub walk-way : {u v : Bay} {d : ℕ} → Free Y held u → Walk Y held u d v → (l : List Bay) × (length l ≡ suc d) × Way Y held u l v
  walk-way {u} f w =
      let t = walk-route w in
      (u ∷ t.0, ap suc t.1, record { rest = t.0; starts = refl; free = f; route = t.2 })

  module _ (p : Placement) (x : Bay) where
    nearest-one : (e f : Bay) → Nearest Y held p x e → Nearest Y held p x f → e ≡ f
    nearest-one e f s t =
        let a = s.nearest f t.path t.empty t.way in
        let b = t.nearest e s.path s.empty s.way in
        let c = s.fewest f t.path t.empty t.way (omega arith) in
        let d = t.fewest e s.path s.empty s.way (omega arith) in
        let g = s.lowest f t.path t.empty t.way (omega arith) (omega arith) in
        let h = t.lowest e s.path s.empty s.way (omega arith) (omega arith) in
        omega arith

    module _ (free-x : Free Y held x) where
      -- what a way leads to is in a ring no further out than the way is long
      way-ring : (b : Bay) (m : List Bay) → Way Y held x m b
          → length m ≤ Y.bays → (i : ℕ) × (suc i ≤ length m) × In b (get_or (rings Y held x) i [])
      way-ring b m w h =
          let k : length m ≡ suc (length w.rest) = ap length w.starts in
          let r = walk-ring Y held Y.bays x (route-walk Y held x w.rest b w.route) (omega arith) in
          (r.0, omega (arith, r.1), r.2)

      found-nearest : (e : Bay) → nearest_empty Y held p x ≡ some e → Nearest Y held p x e
      unfolding nearest_empty nearest_of
      found-nearest e h =
          let rs = rings Y held x in
          let f = first-ring Y (is_empty p) rs h in
          let d = f.ring in
          let fits : d < Y.bays = rw rings_from-length at f.there in
          let w = walk-way free-x (ring-walk Y held Y.bays x d e f.found.there) in
          let len : length w.0 ≡ suc d = w.1 in
          let near : (b : Bay) (m : List Bay) → Out b p → Way Y held x m b → suc d ≤ length m =
          λ b m o v. by_cases (ltb Y.bays (length m))
          (λ l. omega (arith, ltb-true Y.bays (length m) l))
          (λ l.
          let r = way-ring b m v (ltb-false Y.bays (length m) l) in
          by_cases (ltb r.0 d)
          (λ k. not-both (ap not o) (f.earlier r.0 b (ltb-true r.0 d k) r.2))
          (λ k. omega (arith, r.1, ltb-false r.0 d k))) in
          -- an empty bay as near is in the same ring, and e is the choice there
          let rather : (b : Bay) (m : List Bay) → Out b p → Way Y held x m b → length m ≡ length w.0 → Rather (rails_at Y) e b =
          λ b m o v s.
          let r = way-ring b m v (omega arith) in
          let same : r.0 ≡ d = by_cases (ltb r.0 d)
          (λ k. not-both (ap not o) (f.earlier r.0 b (ltb-true r.0 d k) r.2))
          (λ k. omega (arith, r.1, ltb-false r.0 d k)) in
          f.found.before b (rw same at r.2) (ap not o) in
          record {
            empty = not-true (elem e p) f.found.passes;
            path = w.0;
            way = w.2;
            nearest = λ b m o v. let g = near b m o v in omega arith;
            fewest = λ b m o v s. ⊎_elim (λ l. omega arith) (λ l. omega (arith, l.0)) (rather b m o v s);
            lowest = λ b m o v s k. ⊎_elim (λ l. absurd (omega arith)) (λ l. l.1) (rather b m o v s);
          }

      way_in : (b : Bay) (m : List Bay) → Way Y held x m b → In b (nearest_first Y held x)
      way_in b m w = enough Y held x free-x (route-walk Y held x w.rest b w.route)

      -- There is an answer exactly if an empty bay is reached, and it is the nearest one.
      pub nearest-exactly : (e : Bay) → (nearest_empty Y held p x ≡ some e) ↔ Nearest Y held p x e
      unfolding nearest_empty nearest_of
      nearest-exactly e = (
        found-nearest e,
        λ n. by-option (nearest_empty Y held p x)
            (λ h. not-both (ap not n.empty) (no-ring Y (is_empty p) (rings Y held x) h e (way_in e n.path n.way)))
            (λ f h. h ∙ ap some (nearest-one f e (found-nearest f h) n)),
      )

      pub none-near-exactly : (nearest_empty Y held p x ≡ none) ↔ ((b : Bay) (m : List Bay) → Way Y held x m b → In b p)
      unfolding nearest_empty nearest_of
      none-near-exactly = (
        λ h b m w. not-false (elem b p) (no-ring Y (is_empty p) (rings Y held x) h b (way_in b m w)),
        λ f. ring-none Y (is_empty p) (rings Y held x)
            (λ b i. let w = walk-way free-x (reached-walk Y held x b i).2 in ap not (f b w.0 w.2)),
      )

-- ## For code: any test of bays

module _ (Y : Yard) (held : List Bay) (x : Bay) (q : Bay → Bool) where
  -- the choice of the first ring that has a bay which passes is the nearest
  pub nearest-chosen : (d : ℕ) {e : Bay} → Chosen Y q (get_or (rings Y held x) d []) e → ((i : ℕ) (b : Bay) → i < d → In b (get_or (rings Y held x) i []) → q b ≡ false)
      → nearest_of Y q held x ≡ some e
  unfolding nearest_of
  nearest-chosen d c f = ring-first Y q (rings Y held x) d c f

  pub nearest-found : {e : Bay} → nearest_of Y q held x ≡ some e → FirstRing Y q (rings Y held x) e
  unfolding nearest_of
  nearest-found h = first-ring Y q (rings Y held x) h

  pub nearest-none : ((b : Bay) → In b (nearest_first Y held x) → q b ≡ false) → nearest_of Y q held x ≡ none
  unfolding nearest_of
  nearest-none f = ring-none Y q (rings Y held x) f

  pub none-nearest : nearest_of Y q held x ≡ none → (b : Bay) → In b (nearest_first Y held x) → q b ≡ false
  unfolding nearest_of
  none-nearest h = no-ring Y q (rings Y held x) h

pub nearest-empty : (Y : Yard) (held : List Bay) (p : Placement) (x : Bay) → nearest_empty Y held p x ≡ nearest_of Y (is_empty p) held x
unfolding nearest_empty
nearest-empty Y held p x = refl

-- the first that passes in two lists, one after the other
module _ (q : Bay → Bool) where
  pub find-here : (xs ys : List Bay) {e : Bay} → find q xs ≡ some e → find q (xs ++ ys) ≡ some e
  unfolding find
  find-here [] ys {e} h = never-some e h
  find-here (x ∷ xs) ys h = by_cases (q x) (λ k. rw k (rw k at h)) (λ k. rw k (find-here xs ys (rw k at h)))

  pub find-later : (xs ys : List Bay) → find q xs ≡ none → find q (xs ++ ys) ≡ find q ys
  unfolding find
  find-later [] ys h = refl
  find-later (x ∷ xs) ys h = by_cases (q x) (λ k. never-some x (sym (rw k at h))) (λ k. rw k (find-later xs ys (rw k at h)))
