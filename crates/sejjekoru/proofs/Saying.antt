-- What is told of one answer is told of an equal one.
-- Assumes nothing.
use mathlib.Core.Path.{◌≡◌, ◌∙◌, ap}
use Prim.Native.Nat.{ℕ}
use Rattle.numbers.specs.Tells.{Tells}

pub told-as : {A : Type 0} (numbers values : A → ℕ) {a b : A} {number value : ℕ} → a ≡ b → Tells (numbers a) (values a) number value → Tells (numbers b) (values b) number value
told-as numbers values e t = record { numbered = t.numbered ∙ ap numbers e; valued = t.valued ∙ ap values e }
