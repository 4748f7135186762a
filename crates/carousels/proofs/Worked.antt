-- Rings computed: the document's Y4, which is solved by turning the carousel, and Y5, which stays as it was; and one whose carriers would
-- have to change their order.
-- Assumes nothing.
use mathlib.Core.Path.{◌≡◌, refl}
use mathlib.Core.List.{[], ◌∷◌}
use Rattle.paper.specs.Yard.{Yard, crossing}
use Rattle.paper.specs.Procedure.{only, planned, stuck, procedure}
use Rattle.paper.specs.Docket.{yard_by}
use Rattle.worked.proofs.Worked.{computing}

abbrev ring : Yard
ring = yard_by 4 (0 ∷ 1 ∷ 1 ∷ 2 ∷ 2 ∷ 3 ∷ 3 ∷ 0 ∷ [])

-- "Y4's answer then reads c1 1→2, c0 0→1, c1 2→3, c1 3→0."
pub Y4 : procedure ring (1 ∷ 0 ∷ []) (0 ∷ 1 ∷ []) ≡ planned (only (crossing 1 1 2 ∷ crossing 0 0 1 ∷ crossing 1 2 3 ∷ crossing 1 3 0 ∷ []))
unfolding computing
Y4 = refl

pub Y5 : procedure ring (1 ∷ 2 ∷ []) (0 ∷ 1 ∷ []) ≡ planned (only (crossing 1 1 2 ∷ crossing 0 0 1 ∷ []))
unfolding computing
Y5 = refl

-- Carriers 1 and 2 would have to pass each other, with carrier 0 home between them on the other side.
pub out_of_order : procedure (yard_by 5 (0 ∷ 1 ∷ 1 ∷ 2 ∷ 2 ∷ 3 ∷ 3 ∷ 4 ∷ 4 ∷ 0 ∷ [])) (0 ∷ 2 ∷ 1 ∷ []) (0 ∷ 1 ∷ 2 ∷ []) ≡ stuck 2
unfolding computing
out_of_order = refl
