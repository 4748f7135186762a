-- A search that goes up by one: the whole answer is what is still to be searched, until a place passes the test or none is left.
use mathlib.Core.Path.{◌≡◌, sym, ◌∙◌, ap}
use mathlib.Core.Bool.{Bool, true, false}
use mathlib.Core.List.{List}
use mathlib.Core.Option.{Option, none, some}
use Prim.Native.Nat.{ℕ, suc, ◌≤◌, ◌<◌, ◌-◌, ◌+◌}
use native.Mathlib.Omega.{arith}
use native.Mathlib.Numerals.{add-one}
use lib.ListN.{length, get_or, drop, drop_of_length-le}
use lib.Seq.{drop-cons}
use Rattle.paper.specs.Basics.{any, find, count_from, up_to}

-- for the lowest number below n that passes, from e on
module _ (q : ℕ → Bool) (n : ℕ) where
  abbrev pub FoundFrom : Option ℕ → ℕ → Type 0
  FoundFrom whole e = whole ≡ find q (count_from e (n - e))

  pub found-start : FoundFrom (find q (up_to n)) 0
  found-start = ap (λ k. find q (count_from 0 k)) (omega arith)

  one_more : (e : ℕ) → e < n → n - e ≡ suc (n - (e + 1))
  one_more e h = omega arith

  pub found-hit : (whole : Option ℕ) (e : ℕ) → FoundFrom whole e → e < n → q e ≡ true → some e ≡ whole
  unfolding find count_from
  found-hit whole e l h t = sym (l ∙ ap (λ k. find q (count_from e k)) (one_more e h) ∙ rw t)

  pub found-miss : (whole : Option ℕ) (e : ℕ) → FoundFrom whole e → e < n → q e ≡ false → FoundFrom whole (e + 1)
  unfolding find count_from
  found-miss whole e l h f =
      l ∙ ap (λ k. find q (count_from e k)) (one_more e h) ∙ rw f (ap (λ k. find q (count_from k (n - (e + 1)))) (sym (add-one e)))

  pub found-end : (whole : Option ℕ) (e : ℕ) → FoundFrom whole e → n ≤ e → none ≡ whole
  unfolding find count_from
  found-end whole e l h = let z : n - e ≡ 0 = omega arith in sym (l ∙ ap (λ k. find q (count_from e k)) z)

-- for whether a member passes, from place i on
module _ (q : ℕ → Bool) (l : List ℕ) where
  abbrev pub AnyFrom : ℕ → Type 0
  AnyFrom i = any q l ≡ any q (drop i l)

  pub any-hit : (i : ℕ) → AnyFrom i → i < length l → q (get_or l i 0) ≡ true → true ≡ any q l
  unfolding any
  any-hit i v h t = sym (v ∙ rw (drop-cons l i 0, t))

  pub any-miss : (i : ℕ) → AnyFrom i → i < length l → q (get_or l i 0) ≡ false → AnyFrom (i + 1)
  unfolding any
  any-miss i v h f = v ∙ rw (drop-cons l i 0, f, add-one)

  pub any-end : (i : ℕ) → AnyFrom i → length l ≤ i → false ≡ any q l
  unfolding any
  any-end i v h = sym (v ∙ rw (drop_of_length-le l h))
