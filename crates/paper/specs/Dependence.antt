-- Dependence, slots and marks.
-- Assumes nothing.
use Rattle.std.specs.Prelude.{◌≡◌, Bool, true, not, List, [], ◌∷◌, ◌++◌, ℕ, zero, suc, max, ◌<◌, ◌≤◌, eqb, length, get_or, replicate, if◌then◌else◌}
use Rattle.std.proofs.Math.Option.{Option}
use Rattle.paper.specs.Basics.{◌and◌, ◌or◌, any, find, up_to}
use Rattle.paper.specs.Yard.{Carrier, Placement, Crossing, named, after}

-- "Two crossings depend on each other if they have the same carrier or share any bay."
unfoldable pub depend : Crossing → Crossing → Bool
depend x y =
    eqb x.carrier y.carrier
    or eqb x.from y.from or eqb x.from y.to or eqb x.to y.from or eqb x.to y.to

-- ## Slots

-- the highest slot among the earlier crossings that x depends on, or 0
unfoldable pub highest : Crossing → List Crossing → List ℕ → ℕ
highest x [] slots = zero
highest x (e ∷ es) [] = zero
highest x (e ∷ es) (s ∷ ss) = if depend x e then max s (highest x es ss) else highest x es ss

unfoldable pub slots_after : List Crossing → List ℕ → List Crossing → List ℕ
slots_after earlier given [] = []
slots_after earlier given (x ∷ xs) =
    let s = suc (highest x earlier given) in
    s ∷ slots_after (earlier ++ (x ∷ [])) (given ++ (s ∷ [])) xs

-- "A crossing's slot is 1 if no earlier crossing depends on it, else one more than the highest slot among those that do."
unfoldable pub slots : List Crossing → List ℕ
slots xs = slots_after [] [] xs

-- a numbering "from 1 that rises strictly along dependence"
pub record Numbering (xs : List Crossing) (t : ℕ → ℕ) : Type 0 where
  pub from_one : (i : ℕ) → i < length xs → 1 ≤ t i
  pub rises : (e i : ℕ) → e < i → i < length xs → depend (named xs i) (named xs e) ≡ true → t e < t i

-- ## Marks: one byte a crossing; 1 is done

abbrev pub done : ℕ → Bool
done m = eqb m 1

abbrev pub is_done : List ℕ → ℕ → Bool
is_done marks i = done (get_or marks i 0)

-- "fresh is all 0"
abbrev pub fresh : List ℕ → List ℕ
fresh plan = replicate (length plan) 0

-- the lowest name of an earlier crossing that crossing i depends on and that is undone
unfoldable pub undone_before : List Crossing → List ℕ → ℕ → Option ℕ
undone_before xs marks i = find (λ e. depend (named xs i) (named xs e) and not (is_done marks e)) (up_to i)

-- each earlier crossing that it depends on is done
abbrev pub Ready : List Crossing → List ℕ → ℕ → Type 0
Ready xs ms i = (e : ℕ) → e < i → depend (named xs i) (named xs e) ≡ true → is_done ms e ≡ true

-- "a crossing is marked done before an earlier one it depends on"
unfoldable pub out_of_order : List Crossing → List ℕ → Bool
out_of_order xs marks =
    any (λ i. is_done marks i and any (λ e. depend (named xs i) (named xs e) and not (is_done marks e)) (up_to i)) (up_to (length xs))

-- the done crossings in plan order, and the others
unfoldable pub done_of : List Crossing → List ℕ → List Crossing
done_of [] ms = []
done_of (x ∷ xs) [] = []
done_of (x ∷ xs) (m ∷ ms) = let rest = done_of xs ms in if done m then x ∷ rest else rest

unfoldable pub undone_of : List Crossing → List ℕ → List Crossing
undone_of [] ms = []
undone_of (x ∷ xs) [] = x ∷ xs
undone_of (x ∷ xs) (m ∷ ms) = let rest = undone_of xs ms in if done m then rest else x ∷ rest

-- "The placement is worked out from the start and the done crossings in plan order"
abbrev pub placement_by : Placement → List Crossing → List ℕ → Placement
placement_by starts xs marks = after starts (done_of xs marks)

-- how many of the crossings are carrier c's
unfoldable pub count_of : Carrier → List Crossing → ℕ
count_of c [] = zero
count_of c (x ∷ xs) = let rest = count_of c xs in if eqb x.carrier c then suc rest else rest
