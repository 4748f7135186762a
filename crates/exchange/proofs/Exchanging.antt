-- Crossings written down one after another are their lists joined, and an exchange is six of them.
-- Assumes nothing.
use mathlib.Core.Path.{◌≡◌, refl, ◌∙◌}
use mathlib.Core.List.{List, [], ◌∷◌, ◌++◌, map-append}
use Prim.Native.Nat.{ℕ}
use native.Mathlib.Omega.{arith}
use lib.ListN.{length, length-map, length-append}
use Rattle.lists.proofs.Lists.{sets-append}
use Rattle.paper.specs.Procedure.{exchange}
use Rattle.paper.specs.Yard.{Crossing, crossing}
use Rattle.exchange.specs.Exchanging.{Noted}

noted-then : {xs ys : List Crossing} {out out₁ out' : List ℕ} {at m r : ℕ} → Noted xs out at out₁ m → Noted ys out₁ m out' r → Noted (xs ++ ys) out at out' r
noted-then {xs} {ys} {out} {at = at} a b = record {
  stored = b.stored ∙ rw (a.stored, a.counted, map-append, sets-append, length-map);
  counted = b.counted ∙ rw (a.counted, length-append) (omega arith);
}

pub exchanged : {L M v b x y : ℕ} {out out₁ out₂ out₃ out₄ out₅ out' : List ℕ} {at i₁ i₂ i₃ i₄ i₅ r : ℕ}
    → Noted (crossing L v x ∷ []) out at out₁ i₁ → Noted (crossing M b v ∷ []) out₁ i₁ out₂ i₂ → Noted (crossing M v y ∷ []) out₂ i₂ out₃ i₃
    → Noted (crossing L x v ∷ []) out₃ i₃ out₄ i₄ → Noted (crossing L v b ∷ []) out₄ i₄ out₅ i₅ → Noted (crossing M y v ∷ []) out₅ i₅ out' r
    → Noted (exchange L M v b x y) out at out' r
unfolding exchange
exchanged one two three four five six = noted-then one (noted-then two (noted-then three (noted-then four (noted-then five six))))

pub length-exchange : (L M v b x y : ℕ) → length (exchange L M v b x y) ≡ 6
unfolding exchange
length-exchange L M v b x y = refl
