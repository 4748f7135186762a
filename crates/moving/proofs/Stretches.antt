-- A path is cut at a bay that its rest and the stretch before it share. Once the carriers on the rest have moved on that bay is empty, and
-- those on the stretch stand where they stood: so the stretch can be shifted, and its crossings after those of the rest are the whole shift.
-- Assumes nothing.
use mathlib.Core.Path.{◌≡◌, sym, ap, ◌∙◌}
use mathlib.Core.List.{List, [], ◌∷◌, ◌++◌, append-nil, append_assoc}
use Prim.Native.Nat.{ℕ, zero, suc, ◌+◌, ◌-◌, ◌≤◌, ◌<◌}
use native.Mathlib.Omega.{arith}
use lib.ListN.{length, get_or, take, drop, length-drop, take-append-drop}
use lib.Seq.{drop-cons, take_all, length-take-le}
use Rattle.paper.specs.Basics.{Out}
use Rattle.paper.specs.Yard.{Yard, Crossing, crossing, carrier_at, after}
use Rattle.paper.specs.Procedure.{shift}
use Rattle.paper.proofs.Members.{take_in, Out-left, Out-right}
use Rattle.paper.proofs.Playing.{Apart}
use Rattle.paper.proofs.Vacating.{Shiftable, shift-cons, shift_one}
use Rattle.moving.specs.Placed.{Played, CanShift}
use Rattle.moving.proofs.Playing.{played-then}
use Rattle.moving.proofs.Shifting.{shift-length, can-drop, Ahead, ahead_of}

-- the path from place j on, as the code lends it
abbrev pub rest : ℕ → List ℕ → List ℕ
rest j path = take (length path - j) (drop j path)

rest-is : (j : ℕ) (path : List ℕ) → rest j path ≡ drop j path
rest-is j path = take_all (length path - j) (drop j path) (omega (arith, length-drop j path))

pub rest-length : (j : ℕ) (path : List ℕ) → length (rest j path) ≡ length path - j
rest-length j path = rw rest-is (length-drop j path)

-- the carriers on the rest cross first
shift-cut : (p path : List ℕ) (j : ℕ) → j < length path → shift p path ≡ shift p (drop j path) ++ shift p (take (suc j) path)
shift-cut p [] j h = absurd (omega arith)
shift-cut p (a ∷ l) zero h = rw (shift_one, append-nil)
shift-cut p (a ∷ []) (suc j) h = absurd (omega arith)
shift-cut p (a ∷ b ∷ l) (suc j) h =
    let it : List Crossing = crossing (carrier_at p a) a b ∷ [] in
    rw (shift-cons p a b l, shift-cons p a b (take j l))
    (ap (λ (xs : List Crossing). xs ++ it) (shift-cut p (b ∷ l) j (omega arith))
    ∙ append_assoc (shift p (drop j (b ∷ l))) (shift p (take (suc j) (b ∷ l))) it)

-- the carriers on the stretch stand where they stood, and its last bay is empty
stretch-stays : (Y : Yard) {p q : List ℕ} (apart-p : Apart p) (apart-q : Apart q) (path : List ℕ) (j : ℕ) → j < length path
    → Ahead p q (drop j path) → Shiftable Y p apart-p path
    → Shiftable Y q apart-q (take (suc j) path) × (shift q (take (suc j) path) ≡ shift p (take (suc j) path))
stretch-stays Y apart-p apart-q [] j h t s = absurd (omega arith)
stretch-stays Y {p} {q} apart-p apart-q (a ∷ l) zero h t s = (t.empty, shift_one q a ∙ sym (shift_one p a))
stretch-stays Y apart-p apart-q (a ∷ []) (suc j) h t s = absurd (omega arith)
stretch-stays Y {p} {q} apart-p apart-q (a ∷ b ∷ l) (suc j) h t s =
    let off : Out a (take (suc j) (b ∷ l)) = Out-left a (take (suc j) (b ∷ l)) (drop (suc j) (b ∷ l)) (rw take-append-drop s.2) in
    let here = t.stays a s.0 (Out-right a (take j (b ∷ l)) (drop j (b ∷ l)) (rw take-append-drop s.2)) in
    let more = stretch-stays Y apart-p apart-q (b ∷ l) j (omega arith) t s.3 in
    ((here.0, s.1, off, more.0), rw (shift-cons q a b (take j l), shift-cons p a b (take j l), more.1, here.1))

module _ {n : ℕ} {p : List ℕ} (path : List ℕ) (s : CanShift n p path) (j : ℕ) (h : j < length path) where
  pub can-rest : CanShift n p (rest j path)
  can-rest = rw rest-is (can-drop path j h s)

  rest-ahead : Ahead p (after p (shift p (rest j path))) (drop j path)
  rest-ahead =
      let e = drop-cons path j 0 h in
      rw (rest-is, e) (ahead_of (get_or path j 0) (drop (suc j) path) (rw e at (can-drop path j h s)))

  module _ {q standing empty out out₁ : List ℕ} {at m : ℕ} (w : Played (shift p (rest j path)) n p q standing empty out at out₁ m) where
    stays : Shiftable s.yard q w.placed.apart (take (suc j) path) × (shift q (take (suc j) path) ≡ shift p (take (suc j) path))
    stays = stretch-stays s.yard s.apart w.placed.apart path j h (rw w.moved rest-ahead) s.shiftable

    pub can-stretch : CanShift n q (take (suc j) path)
    can-stretch = record {
      yard = s.yard;
      apart = w.placed.apart;
      shiftable = stays.0;
      within = λ b i. s.within b (take_in (suc j) path b i);
    }

    -- the count after the rest leaves room for the stretch
    pub stretch-fits : m + length (take (suc j) path) ≤ at + length path
    stretch-fits = omega (arith, w.counted, shift-length p (rest j path), rest-length j path, length-take-le (suc j) path h)

    pub shift-both : {p' standing' empty' out' : List ℕ} {r : ℕ}
        → Played (shift q (take (suc j) path)) n q p' standing' empty' out₁ m out' r → Played (shift p path) n p p' standing' empty' out at out' r
    shift-both x = rw (shift-cut p path j h) (played-then (rw rest-is at w) (rw stays.1 at x))
