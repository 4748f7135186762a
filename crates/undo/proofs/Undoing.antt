-- The list holds the crossings as they were made, so reading it from the last back and turning each gives the paper's undo; what is
-- written lies behind what is still to be read.
-- Assumes nothing.
use mathlib.Core.Path.{◌≡◌, sym, ◌∙◌, ap, refl}
use mathlib.Core.List.{List, [], ◌∷◌, ◌++◌, map, reverse, reverse-cons}
use Prim.Native.Nat.{ℕ, suc, ◌≤◌, ◌<◌, ◌-◌, ◌+◌, zero}
use native.Mathlib.Omega.{arith}
use native.Mathlib.Numerals.{add-one}
use lib.ListN.{length, get_or, length-map, set, take, get_or-map, length-reverse, get_or-append}
use lib.Seq.{get_or-set_other, sets, take_all, length-take-le, take-suc, set_out, length-sets, get_or-append-add}
use native.Mathlib.Decide.{dec_lt}
use Rattle.paper.specs.Procedure.{renamed, undo}
use Rattle.paper.specs.Yard.{Crossing, crossing, turned as exchanged, reverse_of, pack}
use Rattle.paper.proofs.Packing.{unpack-pack}
use Rattle.undo.specs.Turning.{turned_back, turned, Small, Holds, numbers}

get_d_reverse : (xs : List Crossing) (j : ℕ) → j < length xs → get_or (reverse xs) j (crossing 0 0 0) ≡ get_or xs (length xs - 1 - j) (crossing 0 0 0)
get_d_reverse [] j h = absurd (omega arith)
get_d_reverse (x ∷ xs) j h = elim (dec_lt j (length xs)) [
  | yes k ↦
      let e : suc (length xs) - 1 - j ≡ suc (length xs - 1 - j) = omega arith in
      rw (reverse-cons, e) (get_or-append (reverse xs) (x ∷ []) (crossing 0 0 0) j (rw length-reverse k) ∙ get_d_reverse xs j k)
  | no k ↦
      let e : suc (length xs) - 1 - j ≡ 0 = omega arith in
      let f : j ≡ length (reverse xs) + 0 = rw length-reverse (omega arith) in
      rw (reverse-cons, e) (ap (λ (i : ℕ). get_or (reverse xs ++ (x ∷ [])) i (crossing 0 0 0)) f ∙ get_or-append-add (reverse xs) (x ∷ []) 0 (crossing 0 0 0))
]

length-numbers : (l m : ℕ) (xs : List Crossing) → length (numbers l m xs) ≡ length xs
unfolding undo reverse_of
length-numbers l m xs = rw (length-map, length-map, length-map, length-reverse)

in-mapped : (f : Crossing → Crossing) (ys : List Crossing) (j : ℕ) → j < length ys → get_or (map f ys) j (crossing 0 0 0) ≡ f (get_or ys j (crossing 0 0 0))
in-mapped f [] j h = absurd (omega arith)
in-mapped f (y ∷ ys) zero h = refl
in-mapped f (y ∷ ys) (suc j) h = in-mapped f ys j (omega arith)

number_at : (l m : ℕ) (xs : List Crossing) (j : ℕ) → j < length xs → get_or (numbers l m xs) j 0 ≡ pack (turned_back l m (get_or xs (length xs - 1 - j) (crossing 0 0 0)))
unfolding undo reverse_of pack
number_at l m xs j h =
    let back : j < length (reverse xs) = rw length-reverse h in
    get_or-map pack (map (renamed l m) (map exchanged (reverse xs))) j (crossing 0 0 0)
    ∙ ap pack (in-mapped (renamed l m) (map exchanged (reverse xs)) j (rw length-map back)
    ∙ ap (renamed l m) (in-mapped exchanged (reverse xs) j back ∙ ap exchanged (get_d_reverse xs j h)))

sets-snoc : (l : List ℕ) (i : ℕ) (vs : List ℕ) (v : ℕ) → sets l i (vs ++ (v ∷ [])) ≡ set (sets l i vs) (i + length vs) v
sets-snoc l i [] v = let e : i ≡ i + 0 = omega arith in ap (λ (k : ℕ). set l k v) e
sets-snoc l i (w ∷ vs) v = let e : suc i + length vs ≡ i + suc (length vs) = omega arith in sets-snoc (set l i w) (suc i) vs v ∙ ap (λ (k : ℕ). set (sets (set l i w) (suc i) vs) k v) e

sets-before : (l : List ℕ) (i : ℕ) (vs : List ℕ) (k : ℕ) → k < i → get_or (sets l i vs) k 0 ≡ get_or l k 0
sets-before l i [] k h = refl
sets-before l i (v ∷ vs) k h = sets-before (set l i v) (suc i) vs k (omega arith) ∙ get_or-set_other l i k v 0 (λ e. omega arith)

-- ## What the loop keeps

pub record Undoing (out₀ : List ℕ) (at l m : ℕ) (xs : List Crossing) (j : ℕ) (out : List ℕ) : Type 0 where
  pub stored : out ≡ sets out₀ at (take j (numbers l m xs))

pub undoing-none : (out at-list : List ℕ) (at l m : ℕ) (xs : List Crossing) → out ≡ at-list → Undoing at-list at l m xs 0 out
undoing-none out o at l m xs e = record { stored = e }

pub undoing-more : (out₀ out : List ℕ) (from len at l m : ℕ) (xs : List Crossing) (j : ℕ) → Small xs → Holds out₀ from xs → length xs ≡ len → from + len ≤ at → j < len
    → Undoing out₀ at l m xs j out → Undoing out₀ at l m xs (j + 1) (set out (at + j) (turned l m (get_or out (from + (len - 1 - j)) 0)))
undoing-more out₀ out from len at l m xs j small holds long behind h u =
    let ns : List ℕ = numbers l m xs in
    let hj : j < length ns = rw length-numbers (omega arith) in
    let tl : length (take j ns) ≡ j = length-take-le j ns (omega arith) in
    let same_length : length out ≡ length out₀ = ap length u.stored ∙ length-sets out₀ at (take j ns) in
    let next : sets out₀ at (take (j + 1) ns) ≡ set out (at + j) (get_or ns j 0) =
    rw (add-one, take-suc ns j 0 hj, sets-snoc, tl, ← u.stored) in
    elim (dec_lt (at + j) (length out)) [
      | yes fits ↦
          let old : get_or out (from + (len - 1 - j)) 0 ≡ get_or out₀ (from + (len - 1 - j)) 0 =
          ap (λ (o : List ℕ). get_or o (from + (len - 1 - j)) 0) u.stored ∙ sets-before out₀ at (take j ns) (from + (len - 1 - j)) (omega arith) in
          let x : Crossing = get_or xs (len - 1 - j) (crossing 0 0 0) in
          let here : get_or out₀ (from + (len - 1 - j)) 0 ≡ pack x = holds.at (len - 1 - j) (omega arith) (omega arith) in
          let number : get_or ns j 0 ≡ pack (turned_back l m x) = number_at l m xs j (omega arith) ∙ rw long in
          let turns : turned l m (pack x) ≡ pack (turned_back l m x) = ap (λ (y : Crossing). pack (turned_back l m y)) (unpack-pack x (small.from_low (len - 1 - j)) (small.to_low (len - 1 - j))) in
          record { stored = rw (old, here, turns, ← number) (sym next) }
      | no beyond ↦
          record { stored = set_out out (at + j) _ (omega arith) ∙ sym (set_out out (at + j) (get_or ns j 0) (omega arith)) ∙ sym next }
    ]

pub undoing-all : (out₀ out : List ℕ) (len at l m : ℕ) (xs : List Crossing) (j : ℕ) → length xs ≡ len → len ≤ j → Undoing out₀ at l m xs j out → out ≡ sets out₀ at (numbers l m xs)
undoing-all out₀ out len at l m xs j long h u = u.stored ∙ ap (sets out₀ at) (take_all j (numbers l m xs) (rw length-numbers (omega arith)))
