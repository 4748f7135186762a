-- Emptying two bays in code is the paper's: the second vacate starts where the first ended, in the rest of the list.
-- Assumes nothing.
use Rattle.std.proofs.Common.{None, Some}
use mathlib.Core.Path.{◌≡◌}
use mathlib.Core.List.{List, [], ◌∷◌}
use mathlib.Core.Option.{none, some}
use Prim.Native.Nat.{ℕ}
use Rattle.paper.specs.Yard.{Bay, Yard, Placement, after}
use Rattle.paper.specs.Procedure.{Made, Action, ◌then◌, vacate, aside}
use Rattle.paper.proofs.Actions.{then_runs}
use Rattle.acting.specs.Acting.{nothing, Tries, Acts}
use Rattle.acting.specs.declared.Tally.{Tally}
use Rattle.acting.proofs.Acting.{tallied-then, tries-some, acted-done, acted-failed}
use Rattle.acting.proofs.Lending.{RestLent, on-the-rest}

then-fails : (f g : Action) (p : Placement) → f p ≡ none → (f then g) p ≡ none
unfolding ◌then◌
then-fails f g p h = rw h

then-stops : (f g : Action) (p : Placement) (a : Made) → f p ≡ some a → g (after p a.moves) ≡ none → (f then g) p ≡ none
unfolding ◌then◌
then-stops f g p a h k = rw (h, k)

module _ (Y : Yard) (v b e x : Bay) {n : ℕ} {p standing empty out q standing₁ empty₁ out₁ : List ℕ} {m : Tally}
    (f : Acts (vacate Y (v ∷ b ∷ []) x p) n p standing empty out nothing q standing₁ empty₁ out₁ (Some m)) {lent p' standing' empty' rest : List ℕ} where
  pub both-done : {more sum : Tally} {out' : List ℕ} → Acts (vacate Y (v ∷ b ∷ x ∷ []) e q) n q standing₁ empty₁ lent nothing p' standing' empty' rest (Some more)
      → RestLent out₁ m rest more out' sum → Tries (aside Y v b e x p) n p out nothing p' standing' empty' out' (Some sum)
  unfolding aside
  both-done g l =
      let d = acted-done f in
      let h = acted-done g in
      tries-some (then_runs (vacate Y (v ∷ b ∷ []) x) (vacate Y (v ∷ b ∷ x ∷ []) e) p d.0 h.0 d.1 (rw (← d.2.moved) h.1)) (tallied-then d.2 (on-the-rest l h.2))

  pub both-fails : Acts (vacate Y (v ∷ b ∷ x ∷ []) e q) n q standing₁ empty₁ lent nothing p' standing' empty' rest None → aside Y v b e x p ≡ none
  unfolding aside
  both-fails g = let d = acted-done f in then-stops (vacate Y (v ∷ b ∷ []) x) (vacate Y (v ∷ b ∷ x ∷ []) e) p d.0 d.1 (rw (← d.2.moved) (acted-failed g))

pub aside-fails : (Y : Yard) (v b e x : Bay) (p : Placement) → vacate Y (v ∷ b ∷ []) x p ≡ none → aside Y v b e x p ≡ none
unfolding aside
aside-fails Y v b e x p h = then-fails (vacate Y (v ∷ b ∷ []) x) (vacate Y (v ∷ b ∷ x ∷ []) e) p h
