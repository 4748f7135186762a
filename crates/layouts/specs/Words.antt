-- The layouts of the two files in the document's words.
-- Assumes nothing.
use Rattle.std.specs.Prelude.{List, [], ◌∷◌, ◌++◌, ◌⊎◌, ◌≡◌, ℕ, ◌<◌, ◌≤◌, ◌+◌, ◌*◌, length, get_or}
use Rattle.std.proofs.Math.Option.{Option, some}
use Rattle.paper.specs.Limits.{most_carriers}
use Rattle.paper.specs.Yard.{Bay}
use Rattle.paper.specs.Text.{Text, text, TAB, split, count, is_point, value}
use Rattle.paper.specs.Map.{most_side, Grid, Due, type_due, height_due, width_due, map_due, row_due, cells, number_at}
use Rattle.paper.specs.Scenario.{Listed, version_due, carriers}

-- ## Bytes and fields

abbrev pub Digit : ℕ → Type 0
Digit b = (48 ≤ b) × (b ≤ 57)

abbrev pub Point : ℕ → Type 0
Point b = b ≡ 46

-- each byte of the text
abbrev pub Each : (ℕ → Type 0) → Text → Type 0
Each P l = (i : ℕ) → i < length l → P (get_or l i 0)

-- "1 to k bytes"
pub record Sized (k : ℕ) (l : Text) : Type 0 where
  pub least : 1 ≤ length l
  pub most : length l ≤ k

-- "one to k digits"
pub record Number (k : ℕ) (l : Text) : Type 0 where
  pub size : Sized k l
  pub digits : Each Digit l

-- ## The map

-- "H, W from 1 to 64, in one or two digits after one space": the word, whose last byte is the space, and the digits
pub record Side (word l : Text) (n : ℕ) : Type 0 where
  pub digits : Text
  pub spelled : l ≡ word ++ digits
  pub number : Number 2 digits
  pub worth : value digits ≡ n
  pub least : 1 ≤ n
  pub most : n ≤ most_side

-- "`.` and `G` are bays"
abbrev pub BayLetter : ℕ → Type 0
BayLetter b = (b ≡ 46) ⊎ (b ≡ 71)

-- "`@ O T W` are walls"
pub data WallLetter (b : ℕ) : Type 0 where
  at : b ≡ 64 → WallLetter b
  O : b ≡ 79 → WallLetter b
  T : b ≡ 84 → WallLetter b
  W : b ≡ 87 → WallLetter b

-- "rows of W letters"; "any other letter is 14"
pub record RowOf (w : ℕ) (l : Text) : Type 0 where
  pub long : length l ≡ w
  pub letters : Each (λ b. BayLetter b ⊎ WallLetter b) l

-- "lines `type octile`, `height H`, `width W`, `map`, then H rows of W letters"
abbrev pub KeepsMap : Due → Text → Due → Type 0
KeepsMap type_due l d = (l ≡ text "type octile") × (d ≡ height_due)
KeepsMap height_due l d = (h : ℕ) × Side (text "height ") l h × (d ≡ width_due h)
KeepsMap (width_due h) l d = (w : ℕ) × Side (text "width ") l w × (d ≡ map_due h w)
KeepsMap (map_due h w) l d = (l ≡ text "map") × (d ≡ row_due h w [])
KeepsMap (row_due h w rs) l d = (length rs < h) × RowOf w l × (d ≡ row_due h w (rs ++ (l ∷ [])))

-- the file ends behind the last of the H rows
abbrev pub EndsMap : Due → Grid → Type 0
EndsMap type_due G = ⊥
EndsMap height_due G = ⊥
EndsMap (width_due h) G = ⊥
EndsMap (map_due h w) G = ⊥
EndsMap (row_due h w rs) G = (length rs ≡ h) × (G ≡ record { height = h; width = w; rows = rs })

-- the cell at column x and row y is a bay, and b is its number
pub record BayAt (G : Grid) (x y : ℕ) (b : Bay) : Type 0 where
  pub column : x < G.width
  pub row : y < G.height
  pub letter : BayLetter (get_or (cells G) (y * G.width + x) 64)
  pub numbered : b ≡ number_at G (y * G.width + x)

-- ## The scenario

-- "1 to 20 bytes of digits with at most one point, and at least one digit"
pub record Length (l : Text) : Type 0 where
  pub size : Sized 20 l
  pub bytes : Each (λ b. Digit b ⊎ Point b) l
  pub points : count is_point l ≤ 1
  pub digit : (i : ℕ) × (i < length l) × Digit (get_or l i 0)

-- with the map's width and height, and its bays by column and row
module _ (W H : ℕ) (bay : ℕ → ℕ → Option Bay) where
  -- "nine fields split by tabs: bucket, map name, width, height, start x, start y, goal x, goal y, length"
  pub record CarrierLine (fields : List Text) (c : Bay × Bay) : Type 0 where
    pub nine : length fields ≡ 9
    pub bucket : Number 5 (get_or fields 0 [])
    pub name : Sized 128 (get_or fields 1 [])
    pub width : Number 5 (get_or fields 2 [])
    pub height : Number 5 (get_or fields 3 [])
    pub start_x : Number 5 (get_or fields 4 [])
    pub start_y : Number 5 (get_or fields 5 [])
    pub goal_x : Number 5 (get_or fields 6 [])
    pub goal_y : Number 5 (get_or fields 7 [])
    pub length_field : Length (get_or fields 8 [])
    -- "width and height must equal the map's; each cell must be a bay"
    pub same_width : value (get_or fields 2 []) ≡ W
    pub same_height : value (get_or fields 3 []) ≡ H
    pub start : bay (value (get_or fields 4 [])) (value (get_or fields 5 [])) ≡ some c.0
    pub goal : bay (value (get_or fields 6 [])) (value (get_or fields 7 [])) ≡ some c.1

  -- "`version 1` or `version 1.0`, then one line a carrier"; "A 255th carrier line is 15."
  abbrev pub KeepsScenario : Listed → Text → Listed → Type 0
  KeepsScenario version_due l d = ((l ≡ text "version 1") ⊎ (l ≡ text "version 1.0")) × (d ≡ carriers [])
  KeepsScenario (carriers cs) l d =
      (length cs < most_carriers) × ((c : Bay × Bay) × CarrierLine (split TAB l) c × (d ≡ carriers (cs ++ (c ∷ []))))

  abbrev pub EndsScenario : Listed → List (Bay × Bay) → Type 0
  EndsScenario version_due cs = ⊥
  EndsScenario (carriers ds) cs = cs ≡ ds
