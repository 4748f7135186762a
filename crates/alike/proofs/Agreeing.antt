-- Actions that agree: one after the other, the first that succeeds, and one where the other is missing, they agree as well. A vacate looks at the
-- yard and at which bays are empty, so it agrees with itself at alike placements.
-- Assumes nothing.
use mathlib.Core.Path.{◌≡◌, refl, sym, ◌∙◌, ap₂}
use mathlib.Core.Bool.{Bool}
use mathlib.Core.List.{List, [], ◌∷◌}
use mathlib.Core.Option.{Option, none, some}
use Prim.Native.Nat.{ℕ, ◌+◌}
use Rattle.paper.specs.Basics.{if_some◌then◌else◌, ◌>>=◌, or_else, filter, find, first_of, concat, elem, In}
use Rattle.paper.specs.Yard.{Bay, Carrier, Yard, Placement, crossing, open_bays, bay_of, is_empty, move, after}
use Rattle.paper.specs.Path.{Free, rings, choice, nearest_of, shortest_path}
use Rattle.paper.specs.Procedure.{Made, only, together, Action, ◌then◌, cross, nearest_empty, vacate}
use Rattle.paper.proofs.Tests.{by_cases, by-option}
use Rattle.paper.proofs.Members.{In-head, In-tail, In-append-left, In-append-right}
use Rattle.paper.proofs.Actions.{cross-some}
use Rattle.paper.proofs.Rings.{walk-free, reached-walk}
use Rattle.paper.proofs.Vacating.{vacate-vacates}
use Rattle.alike.specs.Alike.{Alike, Matched, Likewise, Both, Agree}
use Rattle.alike.proofs.Tracks.{matched-after, tracks-append, shift-tracks}

-- ## Answers

pub both-bind : {A B : Type 0} (R : A → A → Type 0) (S : B → B → Type 0) (o o' : Option A) (f g : A → Option B) → Both R o o'
    → ((a b : A) → o ≡ some a → o' ≡ some b → R a b → Both S (f a) (g b)) → Both S (o >>= f) (o' >>= g)
both-bind R S none none f g h k = tt
both-bind R S none (some b) f g h k = absurd h
both-bind R S (some a) none f g h k = absurd h
both-bind R S (some a) (some b) f g h k = k a b refl refl h

pub both-if-some : {A B : Type 0} (R : A → A → Type 0) (S : B → B → Type 0) (o o' : Option A) (f g : A → B) (c d : B) → Both R o o'
    → ((a b : A) → o ≡ some a → o' ≡ some b → R a b → S (f a) (g b)) → S c d → S (if_some o then f else c) (if_some o' then g else d)
both-if-some R S none none f g c d h k l = l
both-if-some R S none (some b) f g c d h k l = absurd h
both-if-some R S (some a) none f g c d h k l = absurd h
both-if-some R S (some a) (some b) f g c d h k l = k a b refl refl h

pub both-else : {A : Type 0} (R : A → A → Type 0) (a b c d : Option A) → Both R a b → Both R c d → Both R (or_else a c) (or_else b d)
both-else R none none c d h k = k
both-else R none (some b) c d h k = absurd h
both-else R (some a) none c d h k = absurd h
both-else R (some a) (some b) c d h k = h

pub both_first : {A : Type 0} (R : A → A → Type 0) (f g : ℕ → Option A) (xs : List ℕ) → ((x : ℕ) → In x xs → Both R (f x) (g x)) → Both R (first_of f xs) (first_of g xs)
unfolding first_of
both_first R f g [] h = tt
both_first R f g (x ∷ xs) h =
    both-else R (f x) (g x) (first_of f xs) (first_of g xs) (h x (In-head x xs)) (both_first R f g xs (λ y i. h y (In-tail y x xs i)))

-- tests that give the same for each member
pub filter_same : (f g : ℕ → Bool) (xs : List ℕ) → ((x : ℕ) → In x xs → f x ≡ g x) → filter f xs ≡ filter g xs
unfolding filter
filter_same f g [] h = refl
filter_same f g (x ∷ xs) h = rw (h x (In-head x xs), filter_same f g xs (λ y i. h y (In-tail y x xs i)))

pub find-same : (f g : ℕ → Bool) (xs : List ℕ) → ((x : ℕ) → In x xs → f x ≡ g x) → find f xs ≡ find g xs
unfolding find
find-same f g [] h = refl
find-same f g (x ∷ xs) h = rw (h x (In-head x xs), find-same f g xs (λ y i. h y (In-tail y x xs i)))

-- ## Actions

pub alone : (m : Made) → Likewise m m
alone m = record { over = refl; parks = refl }

pub likewise-together : (a b c d : Made) → Likewise a b → Likewise c d → Likewise (together a c) (together b d)
likewise-together a b c d l k = record {
  over = tracks-append a.moves b.moves c.moves d.moves l.over k.over;
  parks = ap₂ ◌+◌ l.parks k.parks;
}

pub agree_then : (f g f' g' : Action) (p q : Placement) → Agree (f p) (f' q)
    → ((a b : Made) → f p ≡ some a → f' q ≡ some b → Likewise a b → Agree (g (after p a.moves)) (g' (after q b.moves)))
    → Agree ((f then g) p) ((f' then g') q)
unfolding ◌then◌
agree_then f g f' g' p q h k =
    both-bind Likewise Likewise (f p) (f' q) _ _ h
    (λ a b e d l. both-bind Likewise Likewise (g (after p a.moves)) (g' (after q b.moves)) _ _ (k a b e d l)
    (λ c c' i j t. likewise-together a b c c' l t))

pub agree-cross : (c c' : Carrier) (from to : Bay) (p q : Placement) → bay_of p c ≡ from → bay_of q c' ≡ from → Agree (cross c to p) (cross c' to q)
unfolding cross
agree-cross c c' from to p q e d = rw (e, d) (record { over = refl; parks = refl })

pub agree-cross-then : (c c' : Carrier) (from to : Bay) (g g' : Action) (p q : Placement) → bay_of p c ≡ from → bay_of q c' ≡ from
    → Agree (g (move p (crossing c from to))) (g' (move q (crossing c' from to))) → Agree ((cross c to then g) p) ((cross c' to then g') q)
unfolding cross after
agree-cross-then c c' from to g g' p q e d h =
    agree_then (cross c to) g (cross c' to) g' p q (agree-cross c c' from to p q e d) (λ a b i j l. rw (cross-some c to p a i, cross-some c' to q b j) h)

-- ## Vacate

module _ (Y : Yard) (f g : Bay → Bool) where
  choice-same : (l : List Bay) → ((b : Bay) → In b l → f b ≡ g b) → choice Y f l ≡ choice Y g l
  unfolding choice
  choice-same [] h = refl
  choice-same (x ∷ l) h = rw (h x (In-head x l), choice-same l (λ b i. h b (In-tail b x l i)))

  rings-same : (rs : List (List Bay)) → ((b : Bay) → In b (concat rs) → f b ≡ g b) → first_of (choice Y f) rs ≡ first_of (choice Y g) rs
  unfolding first_of concat
  rings-same [] h = refl
  rings-same (l ∷ rs) h =
      rw (choice-same l (λ b i. h b (In-append-left b l (concat rs) i)), rings-same rs (λ b i. h b (In-append-right b l (concat rs) i)))

module _ (Y : Yard) (held : List Bay) (x : Bay) (inside : In x (open_bays Y)) where
  -- the nearest empty bay is found among bays of the yard
  nearest-same : (p q : Placement) → Alike Y p q → Free Y held x → nearest_empty Y held p x ≡ nearest_empty Y held q x
  unfolding nearest_empty nearest_of
  nearest-same p q a free =
      rings-same Y (is_empty p) (is_empty q) (rings Y held x) (λ b i. a b (walk-free Y held free (reached-walk Y held x b i).2).0)

  pub vacate-agrees : (p q : Placement) → Alike Y p q → Agree (vacate Y held x p) (vacate Y held x q)
  unfolding vacate
  vacate-agrees p q a =
      by_cases (is_empty p x)
      (λ e. rw (e, sym (a x inside) ∙ e) (alone (only [])))
      (λ e. by_cases (elem x held)
      (λ d. rw (e, sym (a x inside) ∙ e, d) tt)
      (λ d.
      let same = nearest-same p q a (inside, d) in
      by-option (nearest_empty Y held p x)
      (λ n. rw (e, sym (a x inside) ∙ e, d, n, sym same ∙ n) tt)
      (λ z n. rw (e, sym (a x inside) ∙ e, d, n, sym same ∙ n) (record { over = shift-tracks p q (shortest_path Y held x z); parks = refl }))))

  -- and after it the placements are as alike as before
  pub vacate-matched : (r s r' s' : Carrier) (p q : Placement) (a b : Made) → Matched Y r s p r' s' q
      → vacate Y held x p ≡ some a → vacate Y held x q ≡ some b → Likewise a b → Matched Y r s (after p a.moves) r' s' (after q b.moves)
  vacate-matched r s r' s' p q a b m e d l =
      matched-after Y r s r' s' p q a.moves b.moves m
      (vacate-vacates Y held x p a m.apart inside e).legal (vacate-vacates Y held x q b m.apart' inside d).legal l.over
