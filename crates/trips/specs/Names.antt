-- Forms for code: every crossing keeps its place, and a byte beside each says whether it is still in the plan, 0, or dropped. Nothing is
-- moved at a cut. proofs/Naming shows that they say the same.
-- Assumes nothing.
use Rattle.std.specs.Prelude.{List, [], ◌∷◌, ◌++◌, ℕ, zero, suc, eqb, take, drop, if◌then◌else◌}
use Rattle.std.proofs.Math.Option.{Option, none, some}
use Rattle.paper.specs.Basics.{◌>>=◌, or_else}
use Rattle.paper.specs.Yard.{Bay, Carrier, Crossing}
use Rattle.trips.specs.Trips.{enters, is_of}

-- what is still in the plan
unfoldable pub left : {A : Type 0} → List ℕ → List A → List A
left [] xs = []
left (g ∷ gs) [] = []
left (g ∷ gs) (x ∷ xs) = let rest = left gs xs in if eqb g 0 then x ∷ rest else rest

-- the place of c's last return to a with no other carrier having entered a before it
unfoldable pub last_place : Carrier → Bay → List ℕ → List Crossing → Option ℕ
last_place c a [] xs = none
last_place c a (g ∷ gs) [] = none
last_place c a (g ∷ gs) (x ∷ xs) =
    let later = last_place c a gs xs >>= λ n. some (suc n) in
    let back = or_else later (some 0) in
    let entered = if is_of c x then back else none in
    let here = if enters a x then entered else later in
    if eqb g 0 then here else later

-- c's crossings among the first n dropped
unfoldable pub without_own : Carrier → ℕ → List ℕ → List Crossing → List ℕ
without_own c n [] xs = []
without_own c n (g ∷ gs) [] = g ∷ gs
without_own c zero (g ∷ gs) (x ∷ xs) = g ∷ gs
without_own c (suc n) (g ∷ gs) (x ∷ xs) = let rest = without_own c n gs xs in if is_of c x then 1 ∷ rest else g ∷ rest

-- and those among the n from the name i on
abbrev pub drop_trip : Carrier → ℕ → ℕ → List ℕ → List Crossing → List ℕ
drop_trip c i n gs xs = take i gs ++ without_own c n (drop i gs) (drop i xs)
