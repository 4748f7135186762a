-- Why playing the plan from the start decides 9 and 10: the first illegal crossing found is the paper's, and where there is none
-- the carriers stand where the whole plan leaves them.
use mathlib.Core.Path.{◌≡◌, sym, ◌∙◌, ap, ap₂}
use mathlib.Core.List.{List, ◌++◌, append-nil}
use mathlib.Core.Option.{Option}
use Prim.Native.Nat.{ℕ}
use native.Mathlib.Omega.{arith}
use lib.ListN.{length, drop, drop_of_length-le}
use Rattle.paper.specs.Yard.{Placement, Crossing, bay_of, after}
use Rattle.paper.specs.Docket.{Refusal}
use Rattle.paper.proofs.Tests.{by-option}
use Rattle.paper.proofs.Members.{count-high}
use Rattle.replay.specs.Playing.{Standing, Occupied, PlayedFrom}
use Rattle.checker.specs.Reading.{nine_ten, NineTen}

-- a copy to a list as long is the whole list
pub all_placed : (starts at at' : List ℕ) → length at ≡ length starts → at' ≡ starts ++ drop (length starts) at → at' ≡ starts
all_placed starts at at' long e =
    e ∙ ap (λ l. starts ++ l) (drop_of_length-le at {i = length starts} (omega (arith, long))) ∙ append-nil starts

pub nine-ten : (rows : ℕ) (table : List ℕ) (starts goals : Placement) (xs : List Crossing) (at at' : Placement) (occupied : List ℕ) (found : Option ℕ)
    → at ≡ starts → Occupied starts occupied → PlayedFrom rows table at occupied xs found at'
    → (answer : Option Refusal) → answer ≡ nine_ten found at' goals → NineTen rows table starts goals xs answer
nine-ten rows table starts goals xs at at' occupied found placed held played answer is Y rails few good =
    let stands : Standing Y rows table starts occupied =
    record {
      rails = rails;
      few = few;
      apart = good.apart;
      inside = λ c k. let z = count-high 0 Y.bays (bay_of starts c) (good.inside c k) in omega arith;
      held = held;
    } in
    let p = (rw placed at played) Y stands in
    by-option found
    (λ e. is ∙ ap₂ (λ f q. nine_ten f q goals) p.first (p.moved e))
    (λ i e. is ∙ ap (λ f. nine_ten f at' goals) e ∙ sym (ap (λ f. nine_ten f (after starts xs) goals) (sym p.first ∙ e)))
