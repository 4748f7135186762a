-- Crossings of the carriers that stand in the first places change nothing behind them.
use mathlib.Core.Path.{◌≡◌, refl, ◌∙◌, ap}
use mathlib.Core.List.{List, [], ◌∷◌, ◌++◌}
use Prim.Native.Nat.{ℕ, suc, ◌<◌}
use native.Mathlib.Omega.{arith}
use lib.ListN.{length, length-set}
use lib.Seq.{set-append_left}
use Rattle.paper.specs.Yard.{Bay, Placement, Crossing, named, move, after}
use Rattle.paper.specs.Dependence.{done, done_of}
use Rattle.paper.proofs.Tests.{by_cases}

pub after-behind : (p : Placement) (behind : List Bay) (xs : List Crossing) (ms : List ℕ) → ((i : ℕ) → i < length xs → (named xs i).carrier < length p)
    → after (p ++ behind) (done_of xs ms) ≡ after p (done_of xs ms) ++ behind
unfolding after done_of
after-behind p behind [] ms f = refl
after-behind p behind (x ∷ xs) [] f = refl
after-behind p behind (x ∷ xs) (m ∷ ms) f =
    by_cases (done m)
    (λ e.
    rw e
    (ap (λ q. after q (done_of xs ms)) (set-append_left p behind x.carrier x.to (f 0 (omega arith)))
    ∙ after-behind (move p x) behind xs ms (λ i h. rw length-set (f (suc i) (omega arith)))))
    (λ e. rw e (after-behind p behind xs ms (λ i h. f (suc i) (omega arith))))
