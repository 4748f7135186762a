-- After each step r stands at the bay that it stepped to, so the next bay is beside it; and the steps so far, then the rest of the path,
-- are the whole.
-- Assumes nothing.
use Rattle.std.proofs.Common.{None, Some}
use mathlib.Core.Path.{◌≡◌, sym, ◌∙◌, ap, refl}
use mathlib.Core.List.{List, [], ◌∷◌}
use mathlib.Core.Option.{Option, none, some}
use Prim.Native.Nat.{ℕ, suc, ◌≤◌, ◌<◌, ◌+◌}
use native.Mathlib.Omega.{arith}
use native.Mathlib.Numerals.{add-one}
use lib.ListN.{length, get_or, drop, drop_of_length-le}
use lib.Seq.{drop-cons}
use Rattle.paper.specs.Procedure.{Made, only, together, step, Outcome, planned, stuck, or_stuck, onward, ◌next◌, go}
use Rattle.paper.specs.Yard.{Bay, Carrier, Yard, Placement, bay_of, after}
use Rattle.step.proofs.Settling.{stepped-of}
use Rattle.go.specs.Going.{plan_of, Linked}
use Rattle.words.specs.Sets.{span}
use Rattle.paper.proofs.Making.{together-assoc, together-none, none-together}
use Rattle.moving.specs.Placed.{Placed}
use Rattle.acting.specs.Acting.{Tabled, nothing, Tallied, Proceeds, Tries}
use Rattle.acting.specs.declared.Tally.{Tally}
use Rattle.acting.proofs.Acting.{tallied-none, tallied-then, tries-some, tried-done, tried-failed}
use Rattle.step.specs.Asking.{Loopless, CanStep}
use Rattle.acting.proofs.Lending.{RestLent, on-the-rest}

-- what is made, and then what the rest answers
abbrev followed_by : Made → Option Made → Option Made
followed_by a none = none
followed_by a (some b) = some (together a b)

followed-twice : (xs ys : Made) (o : Option Made) → followed_by xs (followed_by ys o) ≡ followed_by (together xs ys) o
followed-twice xs ys none = refl
followed-twice xs ys (some zs) = ap some (sym (together-assoc xs ys zs))

plan-then : (a : Made) (o : Outcome) → plan_of (onward o (λ b. planned (together a b))) ≡ followed_by a (plan_of o)
unfolding onward
plan-then a (planned b) = refl
plan-then a (stuck c) = refl

module _ (Y : Yard) (goals : Placement) (r : Carrier) (w : Bay) (ws : List Bay) (p : Placement) where
  go-more : (a : Made) → step Y r r w p ≡ some a → plan_of (go Y goals r (w ∷ ws) p) ≡ followed_by a (plan_of (go Y goals r ws (after p a.moves)))
  unfolding go ◌next◌ onward or_stuck
  go-more a e = rw e (plan-then a (go Y goals r ws (after p a.moves)))

  go-stops : step Y r r w p ≡ none → plan_of (go Y goals r (w ∷ ws) p) ≡ none
  unfolding go ◌next◌ onward or_stuck
  go-stops e = rw e

-- what is played so far, and what is still to be done
pub record Going (Y : Yard) (goals : Placement) (r : Carrier) (ahead : List Bay) (n : ℕ) (p : Placement) (out : List ℕ) (i : ℕ) (p' standing' empty' out' : List ℕ) (m : Tally) : Type 0 where
  pub xs : Made
  pub played : Tallied xs n p p' standing' empty' out nothing out' m
  pub answer : plan_of (go Y goals r ahead p) ≡ followed_by xs (plan_of (go Y goals r (drop i ahead) p'))

pub going-none : (Y : Yard) (goals : Placement) (r : Carrier) (ahead : List Bay) (n : ℕ) (p standing empty out : List ℕ) → Placed n p standing empty
    → Going Y goals r ahead n p out 0 p standing empty out nothing
going-none Y goals r ahead n p standing empty out k = record {
  xs = only [];
  played = tallied-none n p standing empty out nothing k;
  answer = plain (plan_of (go Y goals r ahead p));
}
  where
    plain : (o : Option Made) → o ≡ followed_by (only []) o
    plain none = refl
    plain (some m) = ap some (sym (none-together m))

pub going-all : (Y : Yard) (goals : Placement) (r : Carrier) (ahead : List Bay) (n : ℕ) (p out : List ℕ) (i : ℕ) (p' standing' empty' out' : List ℕ) (m : Tally)
    → Going Y goals r ahead n p out i p' standing' empty' out' m → length ahead ≤ i → Tries (plan_of (go Y goals r ahead p)) n p out nothing p' standing' empty' out' (Some m)
going-all Y goals r ahead n p out i p' standing' empty' out' m g h =
    let nil : plan_of (go Y goals r [] p') ≡ some (only []) = unfold go in refl in
    let e : plan_of (go Y goals r ahead p) ≡ some g.xs = g.answer ∙ rw (drop_of_length-le ahead h, nil) (ap some (together-none g.xs)) in
    tries-some e g.played

module _ {Y : Yard} {goals : Placement} {r : Carrier} {ahead : List Bay} {n : ℕ} {p out : List ℕ} {i : ℕ} {p' standing' empty' out' : List ℕ} {m : Tally} (g : Going Y goals r ahead n p out i p' standing' empty' out' m)
    (here : i < length ahead) {lent rest : List ℕ} {q standing'' empty'' : List ℕ} where
  pub going_more : {out'' : List ℕ} {b sum : Tally} → RestLent out' m rest b out'' sum → Proceeds (step Y r r (get_or ahead i 0) p') n p' lent nothing q standing'' empty'' rest (Some b)
      → Going Y goals r ahead n p out (i + 1) q standing'' empty'' out'' sum
  going_more l a =
      let s = tried-done a.tries in
      record {
        xs = together g.xs s.0;
        played = tallied-then g.played (on-the-rest l s.2);
        answer = g.answer ∙ rw (drop-cons ahead i 0, go-more Y goals r (get_or ahead i 0) (drop (suc i) ahead) p' s.0 s.1, followed-twice, ← add-one, ← s.2.moved);
      }

  pub going-stops : Proceeds (step Y r r (get_or ahead i 0) p') n p' lent nothing q standing'' empty'' rest None → plan_of (go Y goals r ahead p) ≡ none
  going-stops a = g.answer ∙ rw (drop-cons ahead i 0, go-stops Y goals r (get_or ahead i 0) (drop (suc i) ahead) p' (tried-failed a.tries))

-- ## The links

module _ (n : ℕ) (table : List ℕ) (r : Carrier) (p : Placement) (ahead : List Bay) (i : ℕ) (here : i < length ahead) (linked : Linked n table (bay_of p r) (drop i ahead)) where
  linked-here : Linked n table (bay_of p r) (get_or ahead i 0 ∷ drop (suc i) ahead)
  linked-here = rw (drop-cons ahead i 0) at linked

  pub linked_on : Linked n table (get_or ahead i 0) (drop (i + 1) ahead)
  linked_on = rw add-one linked-here.2

  -- the next of the bays ahead can be stepped to
  pub can-go : r < length p → Loopless n table → CanStep n table r r (get_or ahead i 0) p
  can-go there loopless = record {
    carrier_there = there;
    finished_there = omega (arith, there);
    bay_there = linked-here.0;
    rail = linked-here.1;
    loopless = loopless;
  }

module _ {n : ℕ} {table : List ℕ} (t : Tabled n table) (most : n ≤ span) {finished : ℕ} {r : Carrier} {w : Bay} {p : Placement} (can : CanStep n table finished r w p)
    {standing empty : List ℕ} (k : Placed n p standing empty) where
  pub arrived : {out : List ℕ} {at b : Tally} {p' standing' empty' out' : List ℕ} → Proceeds (step t.yard finished r w p) n p out at p' standing' empty' out' (Some b) → bay_of p' r ≡ w
  arrived a = let s = tried-done a.tries in rw s.2.moved (stepped-of t most can k s.0 s.1).arrives
