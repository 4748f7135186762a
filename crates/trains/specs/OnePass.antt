-- The form for code: one pass over the plan that remembers the last slot of each carrier and of the latest leaving of each bay.
-- proofs/OnePass shows that it says the same.
-- Assumes nothing.
use Rattle.std.specs.Prelude.{List, [], ◌∷◌, ℕ, suc, max}
use Rattle.paper.specs.Yard.{Crossing}
use Rattle.paper.specs.OnePass.{put}

unfoldable pub train_pass : (ℕ → ℕ) → (ℕ → ℕ) → List Crossing → List ℕ
train_pass carriers left [] = []
train_pass carriers left (x ∷ xs) =
    let s = max (suc (carriers x.carrier)) (left x.to) in
    s ∷ train_pass (put carriers x.carrier s) (put left x.from s) xs
