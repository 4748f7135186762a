-- A text handed over in a lent list: whole, or not at all where it does not fit.
-- Assumes nothing.
use Rattle.std.specs.Prelude.{List, ◌++◌, ◌≡◌, ℕ, leb, length, drop, if◌then◌else◌}
use Rattle.paper.specs.Docket.{Verdict, granted, denied, room}

-- the text at the front of the list, if it fits; "a refusal changes no lent list"
unfoldable pub fitted : List ℕ → List ℕ → List ℕ
fitted t out = if leb (length t) (length out) then t ++ drop (length t) out else out

-- what is left in the list, and how long the text is, whether it fits or not
pub record Hands (t before after : List ℕ) (needed : ℕ) : Type 0 where
  pub counted : needed ≡ length t
  pub leaves : after ≡ fitted t before

-- so many are written; or 8, with as many as are needed
unfoldable pub handed : ℕ → ℕ → Verdict
handed needed has = if leb needed has then granted needed else denied (room needed)
