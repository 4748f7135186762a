-- Tests over lists, in words: some member passes, the first member that passes, by its place.
use mathlib.Core.Path.{◌≡◌, refl}
use mathlib.Core.Bool.{Bool, true}
use mathlib.Core.List.{List, [], ◌∷◌}
use mathlib.Core.Logic.{◌↔◌}
use mathlib.Core.Option.{some}
use Prim.Native.Nat.{ℕ, zero, suc, ◌<◌}
use native.Mathlib.Omega.{arith}
use lib.ListN.{length, get_or, take}
use Rattle.paper.specs.Basics.{any, find, first_bad, up_to}
use Rattle.paper.proofs.Tests.{by_cases, not-both}
use Rattle.paper.proofs.Members.{find-exactly}
use Rattle.laws.proofs.Firsts.{first-bad-exactly}
use Rattle.exactly.specs.First.{FirstOf}

module _ {A : Type 0} (q : A → Bool) (pad : A) where
  some-place : (xs : List A) → any q xs ≡ true → (i : ℕ) × (i < length xs) × (q (get_or xs i pad) ≡ true)
  unfolding any
  some-place [] h = not-both h refl
  some-place (x ∷ xs) h =
      by_cases (q x)
      (λ e. (0, omega arith, e))
      (λ e. let r = some-place xs (rw e at h) in (suc r.0, omega (arith, r.1), r.2))

  place-some : (xs : List A) (i : ℕ) → i < length xs → q (get_or xs i pad) ≡ true → any q xs ≡ true
  unfolding any
  place-some [] i l h = absurd (omega arith)
  place-some (x ∷ xs) zero l h = rw h
  place-some (x ∷ xs) (suc i) l h = by_cases (q x) (λ e. rw e) (λ e. rw e (place-some xs i (omega arith) h))

  -- some member passes
  pub any-exactly : (xs : List A) → (any q xs ≡ true) ↔ ((i : ℕ) × (i < length xs) × (q (get_or xs i pad) ≡ true))
  any-exactly xs = (some-place xs, λ r. place-some xs r.0 r.1 r.2)

-- the first place of a list that is bad in view of those before it
pub first-place : {A : Type 0} (bad : List A → A → Bool) (pad : A) (xs : List A) (Bad : ℕ → Type 0)
    → ((i : ℕ) → i < length xs → (bad (take i xs) (get_or xs i pad) ≡ true) ↔ Bad i)
    → (d : ℕ) → (first_bad bad 0 [] xs ≡ some d) ↔ FirstOf (length xs) Bad d
first-place bad pad xs Bad f d =
    let e = first-bad-exactly bad pad xs d in (
      λ h.
          let b = e.0 h in
          let l = b.there in
          record { there = l; here = (f d l).0 b.is-bad; earlier = λ j k w. not-both ((f j (omega arith)).1 w) (b.none_before j k) },
      λ b.
          let l = b.there in
          e.1 (record {
            there = l;
            is-bad = (f d l).1 b.here;
            none_before = λ j k. by_cases (bad (take j xs) (get_or xs j pad)) (λ w. absurd (b.earlier j k ((f j (omega arith)).0 w))) (λ w. w);
          }),
    )

-- the lowest number below k that passes
pub lowest-place : (q : ℕ → Bool) (Bad : ℕ → Type 0) → ((i : ℕ) → (q i ≡ true) ↔ Bad i)
    → (k d : ℕ) → (find q (up_to k) ≡ some d) ↔ FirstOf k Bad d
lowest-place q Bad f k d =
    let e = find-exactly q k d in (
      λ h. let b = e.0 h in record { there = b.0; here = (f d).0 b.1; earlier = λ j l w. not-both ((f j).1 w) (b.2 j l) },
      λ b. e.1 (
        b.there,
        (f d).1 b.here,
        λ j l. by_cases (q j) (λ w. absurd (b.earlier j l ((f j).0 w))) (λ w. w),
      ),
    )
