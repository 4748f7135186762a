-- All letters pass if the first does and all behind it do.
use Rattle.std.proofs.Common.{◌≡◌, ℕ, Bool, true, false, ◌+◌, ◌≤◌, ◌<◌, length, drop, get_or}
use native.Mathlib.Numerals.{add-one}
use lib.ListN.{drop_of_length-le}
use lib.Seq.{drop-cons}
use Rattle.paper.specs.Basics.{◌and◌}
use Rattle.paper.specs.Text.{Text, all}

module _ (q : ℕ → Bool) (l : Text) (i : ℕ) where
  pub all-on : i < length l → q (get_or l i 0) ≡ true → all q (drop i l) ≡ all q (drop (i + 1) l)
  unfolding all ◌and◌
  all-on h e = rw (add-one i, drop-cons l i 0 h, e)

  pub all-not : i < length l → q (get_or l i 0) ≡ false → false ≡ all q (drop i l)
  unfolding all ◌and◌
  all-not h e = rw (drop-cons l i 0 h, e)

  pub all_none : length l ≤ i → true ≡ all q (drop i l)
  unfolding all
  all_none h = rw (drop_of_length-le l {i = i} h)
