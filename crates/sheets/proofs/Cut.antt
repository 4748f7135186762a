-- The first lines of a list, cut off to be copied, are as many as were asked for, where the list has so many.
use Rattle.std.proofs.Common.{◌≡◌, ◌++◌, ◌≤◌, ℕ, List, length, take, drop, ◌∙◌, ap}
use lib.Seq.{length-take-le}

pub cut_off : {A : Type 0} (n : ℕ) (from to to' : List A) → n ≤ length from → to' ≡ take n from ++ drop (length (take n from)) to
    → to' ≡ take n from ++ drop n to
cut_off n from to to' h e = e ∙ ap (λ k. take n from ++ drop k to) (length-take-le n from h)
