-- The search for the first bad one, place by place: the whole answer is the answer from here, as long as none was bad.
use Rattle.std.proofs.Common.{None, Some}
use mathlib.Core.Path.{◌≡◌, sym}
use mathlib.Core.Bool.{Bool, true, false}
use mathlib.Core.List.{List}
use mathlib.Core.Option.{Option, none, some}
use Prim.Native.Nat.{ℕ, ◌+◌, ◌≤◌, ◌<◌}
use native.Mathlib.Numerals.{add-one}
use native.Mathlib.Omega.{arith}
use lib.ListN.{length, get_or, take, drop, drop_of_length-le}
use lib.Seq.{take-suc, drop-cons}
use Rattle.paper.specs.Basics.{first_bad}
use Rattle.paper.proofs.Tests.{never}
use Rattle.first_bad.specs.Finding.{Finds}

module _ {A : Type 0} (bad : List A → A → Bool) (pad : A) (xs : List A) where
  -- the answer from place i on
  abbrev pub bad_from : ℕ → Option ℕ
  bad_from i = first_bad bad i (take i xs) (drop i xs)

  pub bad-here : (i : ℕ) → i < length xs → bad (take i xs) (get_or xs i pad) ≡ true → bad_from i ≡ some i
  unfolding first_bad
  bad-here i h b = rw (drop-cons xs i pad h, b)

  pub bad-later : (i : ℕ) → i < length xs → bad (take i xs) (get_or xs i pad) ≡ false → bad_from i ≡ bad_from (i + 1)
  unfolding first_bad
  bad-later i h b = rw (add-one, take-suc xs i pad h, drop-cons xs i pad h, b)

  pub bad-nowhere : (i : ℕ) → length xs ≤ i → bad_from i ≡ none
  unfolding first_bad
  bad-nowhere i h = rw (drop_of_length-le xs h)

-- ---- what was found

pub finds-at : (o : Option ℕ) (m i : ℕ) → o ≡ some i → i < m → Finds o m (Some i)
finds-at o m i e h = record { which = sym e; below = λ j q. let z : i ≡ j = cc in omega arith }

pub finds-none : (o : Option ℕ) (m : ℕ) → o ≡ none → Finds o m None
finds-none o m e = record { which = sym e; below = λ j q. never (cc) }
