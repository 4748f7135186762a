-- A crossing and its 64-bit number are had back from each other: bays are below 2^16, so the three parts do not overlap.
use mathlib.Core.Path.{◌≡◌, refl}
use mathlib.Core.List.{List, [], ◌∷◌, map}
use Prim.Native.Nat.{ℕ, ◌<◌, ◌^◌}
use native.Mathlib.Omega.{arith}
use lib.ListN.{get_or, get_or-map}
use Rattle.paper.specs.Yard.{Crossing, crossing, pack, unpack, crossings, named}

same-crossing : (c c' a a' b b' : ℕ) → c ≡ c' → a ≡ a' → b ≡ b' → crossing c a b ≡ crossing c' a' b'
same-crossing c c' a a' b b' p q r = λ i. record { carrier = p i; from = q i; to = r i }

-- a crossing whose bays are below 2^16 reads back from its number
pub unpack-pack : (x : Crossing) → x.from < 2 ^ 16 → x.to < 2 ^ 16 → unpack (pack x) ≡ x
unfolding pack unpack
unpack-pack x hf ht = same-crossing _ _ _ _ _ _ (omega arith) (omega arith) (omega arith)

-- and each number is the number of the crossing that it reads as
pub pack-unpack : (w : ℕ) → pack (unpack w) ≡ w
unfolding pack unpack
pack-unpack w = omega arith

-- a 64-bit number's carrier is below 2^32 and its bays are below 2^16
pub unpack-small : (w : ℕ) → w < 2 ^ 64 → ((unpack w).carrier < 2 ^ 32) × ((unpack w).from < 2 ^ 16) × ((unpack w).to < 2 ^ 16)
unfolding unpack
unpack-small w h = (omega arith, omega arith, omega arith)

-- the crossing of a name is what the number there reads as
pub named-is : (plan : List ℕ) (i : ℕ) → named (crossings plan) i ≡ unpack (get_or plan i 0)
unfolding unpack
named-is plan i = get_or-map unpack plan i 0

-- a plan is the numbers of its crossings
pub packed-back : (plan : List ℕ) → map pack (crossings plan) ≡ plan
packed-back [] = refl
packed-back (w ∷ plan) = rw (pack-unpack w, packed-back plan)
