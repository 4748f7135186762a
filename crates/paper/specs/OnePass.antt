-- Forms for code where the document's own would look at every pair of crossings: one pass over the plan, remembering what each
-- carrier and each bay has met. proofs/Slotting and proofs/Marking show that they say the same.
-- Assumes nothing.
use Rattle.std.specs.Prelude.{Bool, true, false, List, [], ◌∷◌, ℕ, suc, max, ◌<◌, eqb, length, get_or, if◌then◌else◌}
use Rattle.paper.specs.Basics.{◌or◌}
use Rattle.paper.specs.Yard.{Crossing, unpack}
use Rattle.paper.specs.Dependence.{done}

-- a table: what stands at each number; one entry put anew
unfoldable pub put : {A : Type 0} → (ℕ → A) → ℕ → A → ℕ → A
put t i a j = if eqb j i then a else t j

-- the slots, from the last slot of each carrier and of each bay
unfoldable pub slots_pass : (ℕ → ℕ) → (ℕ → ℕ) → List Crossing → List ℕ
slots_pass carriers bays [] = []
slots_pass carriers bays (x ∷ xs) =
    let s = suc (max (carriers x.carrier) (max (bays x.from) (bays x.to))) in
    s ∷ slots_pass (put carriers x.carrier s) (put (put bays x.from s) x.to s) xs

-- whether marks are out of order, from the carriers and the bays that an undone crossing has touched
unfoldable pub order_pass : (ℕ → Bool) → (ℕ → Bool) → List Crossing → List ℕ → Bool
order_pass carriers bays [] ms = false
order_pass carriers bays (x ∷ xs) [] = false
order_pass carriers bays (x ∷ xs) (m ∷ ms) =
    let met = order_pass carriers bays xs ms in
    let more = order_pass (put carriers x.carrier true) (put (put bays x.from true) x.to true) xs ms in
    if done m then carriers x.carrier or bays x.from or bays x.to or met else more

-- What such tables ask of a plan: carriers below k, bays below n.
abbrev pub Fits : ℕ → ℕ → List ℕ → Type 0
Fits k n plan =
    (i : ℕ) → i < length plan → ((unpack (get_or plan i 0)).carrier < k) × ((unpack (get_or plan i 0)).from < n) × ((unpack (get_or plan i 0)).to < n)
