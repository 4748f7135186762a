-- An action is lent the rest of the list and counts from nothing. What it stored there stands in the whole list behind what was counted before, and
-- the sum is the tally of both.
-- Assumes nothing.
use Rattle.std.proofs.Common.{Some}
use mathlib.Core.Path.{◌≡◌, sym, ◌∙◌, ap, refl}
use mathlib.Core.List.{List, ◌++◌, map}
use mathlib.Core.Option.{Option}
use Prim.Native.Nat.{ℕ, min, ◌≤◌, ◌-◌, ◌+◌}
use native.Mathlib.Omega.{arith}
use lib.ListN.{length, take, drop, length-take, length-drop, length-map}
use lib.Seq.{length-take-le, take-append-add, take-append-le}
use Rattle.paper.specs.Procedure.{Made}
use Rattle.paper.specs.Yard.{pack}
use Rattle.moving.specs.Placed.{Stored}
use Rattle.acting.specs.Acting.{nothing, Added, Tallied, Tries}
use Rattle.acting.specs.declared.Tally.{Tally}
use Rattle.acting.proofs.Acting.{tries-some, tried-done}

-- The list `out` was lent from where it goes on, or from its end; that part of it is `rest` afterwards, and the whole is `out'`. What was counted
-- is added.
pub record RestLent (out : List ℕ) (at : Tally) (rest : List ℕ) (more : Tally) (out' : List ℕ) (sum : Tally) : Type 0 where
  pub from : ℕ
  pub behind : List ℕ
  pub goes_on : from ≡ min at.crossings (length out)
  pub lent : length rest ≡ length (take (length out - from) (drop from out))
  pub long : length out' ≡ length out
  pub whole : out' ≡ take from out ++ (rest ++ behind)
  pub added : Added at more sum

pub rest-lent : {out rest : List ℕ} {at more sum : Tally} {from : ℕ} (behind : List ℕ) → from ≡ min at.crossings (length out)
    → (length rest ≡ length (take (length out - from) (drop from out))) × (length (take from out ++ (rest ++ behind)) ≡ length out) → Added at more sum
    → RestLent out at rest more (take from out ++ (rest ++ behind)) sum
rest-lent {from = from} behind e size a = record { from = from; behind = behind; goes_on = e; lent = size.0; long = size.1; whole = refl; added = a }

module _ {out rest : List ℕ} {at more : Tally} {out' : List ℕ} {sum : Tally} (l : RestLent out at rest more out' sum) where
  -- what the rest begins with follows what stood before
  pub stored-on-the-rest : (vs : List ℕ) → more.crossings ≡ length vs → (length vs ≤ length rest → take (length vs) rest ≡ vs) → Stored vs out at.crossings out'
  stored-on-the-rest vs many begins = record {
    long = l.long;
    front = λ h.
        let same : l.from ≡ at.crossings = omega (arith, l.goes_on, h) in
        let size : length (take at.crossings out) ≡ at.crossings = length-take-le at.crossings out (omega (arith, h)) in
        let fits : length vs ≤ length rest = omega (arith, h, same, l.lent, length-take (length out - l.from) (drop l.from out), length-drop l.from out) in
        let front = take-append-add (take at.crossings out) (rest ++ l.behind) (length vs) in
        rw (l.whole, same) ((rw size at front) ∙ ap (λ (v : List ℕ). take at.crossings out ++ v) (take-append-le (length vs) rest l.behind fits ∙ begins fits));
  }

  pub on-the-rest : {made : Made} {n : ℕ} {p p' standing' empty' lent : List ℕ} → Tallied made n p p' standing' empty' lent nothing rest more → Tallied made n p p' standing' empty' out at out' sum
  on-the-rest {made = made} w =
      let size = length-map made.moves pack in
      let from_nothing : 0 + length (map pack made.moves) ≡ length (map pack made.moves) = omega arith in
      record {
        moved = w.moved;
        placed = w.placed;
        stored = stored-on-the-rest (map pack made.moves) (omega (arith, w.counted, size)) (λ h. rw from_nothing at (w.stored.front (omega (arith, h, w.stored.long))));
        counted = omega (arith, w.counted, l.added.crossings);
        parks = omega (arith, w.parks, l.added.parks);
        few = λ h. omega (arith, h, l.added.few, l.added.crossings, w.few (omega arith));
      }

  -- the action that succeeded in the rest succeeded in the whole
  pub tries-on-the-rest : {o : Option Made} {n : ℕ} {p p' standing' empty' lent : List ℕ} → Tries o n p lent nothing p' standing' empty' rest (Some more) → Tries o n p out at p' standing' empty' out' (Some sum)
  tries-on-the-rest t = let d = tried-done t in tries-some d.1 (on-the-rest d.2)
