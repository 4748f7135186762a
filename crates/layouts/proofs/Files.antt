-- Reading line by line, for any layout whose lines and ends are given in words: what is read is what a file that keeps the layout says, and a bad line is
-- the first that breaks it or is missing.
use mathlib.Core.Path.{◌≡◌, refl, sym, ◌∙◌, ap}
use mathlib.Core.List.{List, [], ◌∷◌}
use mathlib.Core.Logic.{◌↔◌}
use mathlib.Core.Option.{Option, none, some}
use Prim.Native.Nat.{ℕ, zero, suc, ◌+◌, ◌≤◌}
use native.Mathlib.Omega.{arith}
use Rattle.paper.specs.Text.{Text, good, bad_line, read_lines}
use Rattle.paper.proofs.Tests.{by-option, never-some, good-same, bad-same, not_good}
use Rattle.layouts.specs.Files.{AllKeep, Whole, FirstBadLine}

module _ {A R : Type 0} (line : A → Text → Option A) (end : A → Option R)
    (Keeps : A → Text → A → Type 0) (Ends : A → R → Type 0)
    (keeps : (a : A) (l : Text) (b : A) → (line a l ≡ some b) ↔ Keeps a l b)
    (ends : (a : A) (r : R) → (end a ≡ some r) ↔ Ends a r) where
  breaks-of : (a : A) (l : Text) → line a l ≡ none → (b : A) → Keeps a l b → ⊥
  breaks-of a l e b k = never-some b (sym e ∙ (keeps a l b).1 k)

  of-breaks : (a : A) (l : Text) → ((b : A) → Keeps a l b → ⊥) → line a l ≡ none
  of-breaks a l f = by-option (line a l) (λ e. e) (λ b e. absurd (f b ((keeps a l b).0 e)))

  misses_of : (a : A) → end a ≡ none → (r : R) → Ends a r → ⊥
  misses_of a e r k = never-some r (sym e ∙ (ends a r).1 k)

  of-misses : (a : A) → ((r : R) → Ends a r → ⊥) → end a ≡ none
  of-misses a f = by-option (end a) (λ e. e) (λ r e. absurd (f r ((ends a r).0 e)))

  -- ## What is read

  read_whole : (n : ℕ) (a : A) (ls : List Text) (r : R) → read_lines line end n a ls ≡ good r → Whole Keeps Ends a ls r
  unfolding read_lines
  read_whole n a [] r h =
      by-option (end a)
      (λ e. not_good (sym (rw e at h)))
      (λ q e. (a, refl, (ends a r).0 (e ∙ ap some (good-same (rw e at h)))))
  read_whole n a (l ∷ ls) r h =
      by-option (line a l)
      (λ e. not_good (sym (rw e at h)))
      (λ b e. let w = read_whole (suc n) b ls r (rw e at h) in (w.0, (b, (keeps a l b).0 e, w.1), w.2))

  whole-read : (n : ℕ) (a : A) (ls : List Text) (r : R) (b : A) → AllKeep Keeps Ends a ls b → Ends b r → read_lines line end n a ls ≡ good r
  unfolding read_lines
  whole-read n a [] r b k e = let z : end a ≡ some r = (ends a r).1 (rw k e) in rw z
  whole-read n a (l ∷ ls) r b k e =
      let z : line a l ≡ some k.0 = (keeps a l k.0).1 k.1 in
      rw z (whole-read (suc n) k.0 ls r b k.2 e)

  -- A file is read exactly if all its lines keep the layout and none is missing.
  pub good-exactly : (n : ℕ) (a : A) (ls : List Text) (r : R) → (read_lines line end n a ls ≡ good r) ↔ Whole Keeps Ends a ls r
  good-exactly n a ls r = (read_whole n a ls r, λ w. whole-read n a ls r w.0 w.1 w.2)

  -- ## The bad line

  found : (n : ℕ) (a : A) (ls : List Text) (k : ℕ) → read_lines line end n a ls ≡ bad_line k → (d : ℕ) × (k ≡ n + d) × FirstBadLine Keeps Ends a ls d
  unfolding read_lines
  found n a [] k h =
      by-option (end a)
      (λ e. (
        0,
        (let z = bad-same (rw e at h) in omega arith),
        record { so_far = a; before = refl; within = omega arith; breaks = λ l. absurd (omega arith); misses = λ q. misses_of a e },
      ))
      (λ r e. not_good (rw e at h))
  found n a (l ∷ ls) k h =
      by-option (line a l)
      (λ e. (
        0,
        (let z = bad-same (rw e at h) in omega arith),
        record { so_far = a; before = refl; within = omega arith; breaks = λ q. breaks-of a l e; misses = λ q. absurd (omega arith) },
      ))
      (λ b e.
      let r = found (suc n) b ls k (rw e at h) in
      let f = r.2 in (
        suc r.0,
        omega (arith, r.1),
        record {
          so_far = f.so_far;
          before = (b, (keeps a l b).0 e, f.before);
          within = omega (arith, f.within);
          breaks = λ q. f.breaks (omega arith);
          misses = λ q. f.misses (omega arith);
        },
      ))

  told : (n : ℕ) (a : A) (ls : List Text) (d : ℕ) → FirstBadLine Keeps Ends a ls d → read_lines line end n a ls ≡ bad_line (n + d)
  unfolding read_lines
  told n a [] zero f =
      let z : end a ≡ none = of-misses a (rw (← f.before) at (f.misses refl)) in
      rw z (ap bad_line (omega arith))
  told n a [] (suc d) f = absurd (omega (arith, f.within))
  told n a (l ∷ ls) zero f =
      let z : line a l ≡ none = of-breaks a l (rw (← f.before) at (f.breaks (omega arith))) in
      rw z (ap bad_line (omega arith))
  told n a (l ∷ ls) (suc d) f =
      let k = f.before in
      let z : line a l ≡ some k.0 = (keeps a l k.0).1 k.1 in
      rw z
      (told (suc n) k.0 ls d (record {
        so_far = f.so_far;
        before = k.2;
        within = omega (arith, f.within);
        breaks = λ q. f.breaks (omega arith);
        misses = λ q. f.misses (omega arith);
      })
      ∙ ap bad_line (omega arith))

  -- Line n, from 1, is the bad one exactly if the lines before it keep the layout and line n breaks it or is missing.
  pub bad-exactly : (a : A) (ls : List Text) (d : ℕ) → (read_lines line end 1 a ls ≡ bad_line (suc d)) ↔ FirstBadLine Keeps Ends a ls d
  bad-exactly a ls d = (
    λ h. let r = found 1 a ls (suc d) h in let e : r.0 ≡ d = omega (arith, r.1) in rw e at r.2,
    λ f. told 1 a ls d f ∙ ap bad_line (omega arith),
  )

  -- a bad line has a number from 1
  pub bad-from-one : (a : A) (ls : List Text) (n : ℕ) → read_lines line end 1 a ls ≡ bad_line n → 1 ≤ n
  bad-from-one a ls n h = let r = found 1 a ls n h in omega (arith, r.1)
