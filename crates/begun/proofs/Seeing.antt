-- All members are read one after the other: what was seen and what is left to look at tell whether one passes.
use mathlib.Core.Path.{◌≡◌, refl, sym, ◌∙◌}
use mathlib.Core.Bool.{Bool, true, false, ◌||◌}
use mathlib.Core.List.{List}
use Prim.Native.Nat.{ℕ, ◌≤◌, ◌<◌, ◌+◌}
use native.Mathlib.Numerals.{add-one}
use lib.ListN.{length, get_or, drop, drop_of_length-le}
use lib.Seq.{drop-cons}
use Rattle.paper.specs.Basics.{◌or◌, any}
use Rattle.paper.proofs.Tests.{by_cases}

module _ (q : ℕ → Bool) (l : List ℕ) where
  -- one of those seen passes, or one from place i on
  abbrev pub SeenFrom : Bool → ℕ → Type 0
  SeenFrom seen i = any q l ≡ seen or any q (drop i l)

  pub seen_start : SeenFrom false 0
  unfolding ◌or◌
  seen_start = refl

  pub seen-on : (seen : Bool) (i : ℕ) → SeenFrom seen i → i < length l → SeenFrom (seen || q (get_or l i 0)) (i + 1)
  unfolding any ◌or◌
  seen-on true i v h = v
  seen-on false i v h = v ∙ rw (drop-cons l i 0 h, add-one i) (by_cases (q (get_or l i 0)) (λ e. rw e) (λ e. rw e))

  pub seen_end : (seen : Bool) (i : ℕ) → SeenFrom seen i → length l ≤ i → seen ≡ any q l
  unfolding any ◌or◌
  seen_end true i v h = sym v
  seen_end false i v h = sym (v ∙ rw (drop_of_length-le l h))
