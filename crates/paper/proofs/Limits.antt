-- The limits are the document's: its yard Y10, computed. A limit stands under its name everywhere else, so only here would another number show.
use mathlib.Core.Path.{◌≡◌, refl}
use mathlib.Core.List.{List, [], ◌∷◌}
use mathlib.Core.Option.{Option, none, some}
use Prim.Native.Nat.{ℕ}
use Rattle.paper.specs.Basics.{up_to}
use Rattle.paper.specs.Order.{order}
use Rattle.paper.specs.Docket.{Refusal, size, crowd, no_1, no_4}
use Rattle.paper.specs.Basics
use Rattle.paper.specs.Docket

-- Y10: 256 bays and 254 carriers pass 1 and 4; 257 bays are 1; 255 carriers on 256 bays are 4. The other limits likewise.
abbrev numbers : ℕ → List ℕ
numbers k = up_to k

abbrev size_of : ℕ → ℕ → ℕ → ℕ → ℕ → Option Refusal
size_of n e k l lent = no_1 (order n (numbers e) (numbers k) (numbers l)) lent

pub limits : (size_of 256 0 254 254 0
    ∷ no_4 (order 256 [] (numbers 254) [])
    ∷ size_of 257 0 0 0 0
    ∷ no_4 (order 256 [] (numbers 255) [])
    ∷ size_of 2 2 0 0 0
    ∷ size_of 1 0 0 0 0
    ∷ size_of 2 2048 0 0 0
    ∷ size_of 2 2050 0 0 0
    ∷ size_of 2 3 0 0 0
    ∷ size_of 4 2 1 2 0
    ∷ size_of 2 2 0 0 65536
    ∷ size_of 2 2 0 0 65537
    ∷ [])
    ≡ none ∷ none ∷ some size ∷ some crowd ∷ none ∷ some size ∷ none ∷ some size ∷ some size ∷ some size ∷ none ∷ some size ∷ []
unfolding Basics.◌or◌ Basics.count_from Docket.bad_size
limits = refl
