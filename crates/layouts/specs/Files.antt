-- A file that keeps a layout, in words, for any layout: which line keeps it after what was read, and where the file may end.
-- Assumes nothing.
use Rattle.std.specs.Prelude.{List, [], ◌∷◌, ◌≡◌, ℕ, ◌<◌, ◌≤◌, length, get_or, take}
use Rattle.paper.specs.Text.{Text}

-- `Keeps a l b`: where a was read, the line l keeps the layout, and then b was read. `Ends a r`: the file may end there, and r was read.
module _ {A R : Type 0} (Keeps : A → Text → A → Type 0) (Ends : A → R → Type 0) where
  -- the lines keep the layout
  abbrev pub AllKeep : A → List Text → A → Type 0
  AllKeep a [] b = a ≡ b
  AllKeep a (l ∷ ls) b = (c : A) × Keeps a l c × AllKeep c ls b

  -- all of them do, and none is missing
  abbrev pub Whole : A → List Text → R → Type 0
  Whole a ls r = (b : A) × AllKeep a ls b × Ends b r

  -- "first bad line": the d lines before it keep the layout, and it breaks it, or is missing
  pub record FirstBadLine (a : A) (ls : List Text) (d : ℕ) : Type 0 where
    pub so_far : A
    pub before : AllKeep a (take d ls) so_far
    pub within : d ≤ length ls
    pub breaks : d < length ls → (b : A) → Keeps so_far (get_or ls d []) b → ⊥
    pub misses : d ≡ length ls → (r : R) → Ends so_far r → ⊥
