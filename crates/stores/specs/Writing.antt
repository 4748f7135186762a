-- What writing into a lent list leaves.
-- Assumes nothing.
use Rattle.std.specs.Prelude.{List, ◌≡◌, ℕ, ◌+◌, length}
use Rattle.std.proofs.lemmas.List.Edits.{sets}

-- The numbers stand in the list from the place on, as far as it goes, and the rest is as it was; the next place is behind all of
-- them, whether they fit or not.
pub record Wrote (before : List ℕ) (place : ℕ) (t : List ℕ) (after : List ℕ) (next : ℕ) : Type 0 where
  pub left : after ≡ sets before place t
  pub counted : next ≡ place + length t
