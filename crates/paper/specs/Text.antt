-- Bytes, lines, fields and numbers in text, and files that are read line by line.
-- Assumes nothing.
use Rattle.std.specs.Prelude.{Bool, true, false, List, [], ◌∷◌, ℕ, suc, ◌+◌, ◌-◌, ◌*◌, eqb, leb, length, if◌then◌else◌}
use Rattle.std.proofs.Math.Option.{Option}
use Prim.Native.Char.{code}
use Prim.Native.String.{String, [] as nothing, ◌∷◌ as ◌then◌}
use Rattle.paper.specs.Basics.{if_some◌then◌else◌, ◌and◌}

-- a list of bytes
abbrev pub Text : Type 0
Text = List ℕ

-- the bytes of what stands between quotes
abbrev pub text : String → Text
text nothing = []
text (c then s) = code c ∷ text s

abbrev pub LF : ℕ
LF = 10

abbrev pub CR : ℕ
CR = 13

abbrev pub TAB : ℕ
TAB = 9

abbrev pub SPACE : ℕ
SPACE = 32

-- the byte in front of the first piece
unfoldable pub join : ℕ → List Text → List Text
join b [] = (b ∷ []) ∷ []
join b (l ∷ ls) = (b ∷ l) ∷ ls

unfoldable pub begins_with_lf : Text → Bool
begins_with_lf [] = false
begins_with_lf (b ∷ bs) = eqb b LF

-- "Lines end in LF or CR LF; the last end may be missing."
unfoldable pub lines : Text → List Text
lines [] = []
lines (b ∷ bs) =
    let rest = lines bs in
    if eqb b LF then [] ∷ rest
    else if eqb b CR and begins_with_lf bs then rest
    else join b rest

-- the pieces between the bytes t
unfoldable pub split : ℕ → Text → List Text
split t [] = [] ∷ []
split t (b ∷ bs) = let rest = split t bs in if eqb b t then [] ∷ rest else join b rest

unfoldable pub same : Text → Text → Bool
same [] [] = true
same [] (c ∷ cs) = false
same (b ∷ bs) [] = false
same (b ∷ bs) (c ∷ cs) = eqb b c and same bs cs

unfoldable pub all : (ℕ → Bool) → Text → Bool
all q [] = true
all q (b ∷ bs) = q b and all q bs

-- how many bytes pass
unfoldable pub count : (ℕ → Bool) → Text → ℕ
count q [] = 0
count q (b ∷ bs) = let rest = count q bs in if q b then suc rest else rest

unfoldable pub is_digit : ℕ → Bool
is_digit b = leb 48 b and leb b 57

unfoldable pub is_point : ℕ → Bool
is_point b = eqb b 46

-- the number that digits spell, after n was read
unfoldable pub value_from : ℕ → Text → ℕ
value_from n [] = n
value_from n (b ∷ bs) = value_from (n * 10 + (b - 48)) bs

abbrev pub value : Text → ℕ
value l = value_from 0 l

-- 1 to k bytes
unfoldable pub sized : ℕ → Text → Bool
sized k l = leb 1 (length l) and leb (length l) k

-- one to k digits
unfoldable pub is_number : ℕ → Text → Bool
is_number k l = sized k l and all is_digit l

-- what was read, or the first bad line, from 1
pub data Read (A : Type 0) : Type 0 where
  good : A → Read A
  bad_line : ℕ → Read A

-- A layout: what a line makes of what was read before it, none where it breaks the layout; and what the end gives, none where
-- a line is missing. So a bad line, a line too many and a missing line all carry their number.
module _ {A R : Type 0} (line : A → Text → Option A) (end : A → Option R) where
  unfoldable pub read_lines : ℕ → A → List Text → Read R
  read_lines n a [] = if_some end a then good else bad_line n
  read_lines n a (l ∷ ls) = if_some line a l then (λ a'. read_lines (suc n) a' ls) else bad_line n
