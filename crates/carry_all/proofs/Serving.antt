-- The turns so far, and then those of the rest, are the paper's procedure. Who had a turn is at home.
-- Assumes nothing.
use Rattle.std.proofs.Common.{Err, Ok}
use mathlib.Core.Path.{◌≡◌, sym, ◌∙◌, ap, refl}
use mathlib.Core.List.{List, []}
use Prim.Native.Nat.{ℕ, suc, ◌≤◌, ◌<◌, ◌-◌, ◌+◌}
use native.Mathlib.Omega.{arith}
use lib.ListN.{length}
use Rattle.paper.specs.Procedure.{Made, only, together, Outcome, planned, stuck, onward, ◌next◌, carry, carry_from, procedure}
use Rattle.paper.specs.Yard.{Carrier, Yard, Placement, after}
use Rattle.carry.proofs.FromBelow.{sound-of}
use Rattle.paper.proofs.Carrying.{carry-carries}
use Rattle.words.specs.Sets.{span}
use Rattle.acting.proofs.Lending.{RestLent, on-the-rest}
use Rattle.carry.specs.FromBelow.{Stages}
use Rattle.paper.proofs.Making.{together-assoc, together-none, none-together}
use Rattle.moving.specs.Placed.{Placed}
use Rattle.acting.specs.Acting.{Tabled, Tallied, nothing}
use Rattle.acting.specs.declared.Tally.{Tally}
use Rattle.acting.proofs.Acting.{tallied-none, tallied-then}
use Rattle.carry.proofs.FromBelow.{in-bays}
use Rattle.carry.specs.FromBelow.{Loopless}
use Rattle.carry.proofs.FromBelow.{stages-done}
use Rattle.carry.specs.FromBelow.{Goals, HomeBelow}
use Rattle.docket.specs.declared.Carrier.{Carrier as Named}

-- what is made, and then what the rest gives
abbrev before_all : Made → Outcome → Outcome
before_all xs (planned ys) = planned (together xs ys)
before_all xs (stuck c) = stuck c

pub record Served (Y : Yard) (goals : Placement) (n : ℕ) (p out : List ℕ) (r : ℕ) (p' standing' empty' out' : List ℕ) (m : Tally) : Type 0 where
  pub xs : Made
  pub played : Tallied xs n p p' standing' empty' out nothing out' m
  pub answer : procedure Y goals p ≡ before_all xs (carry_from Y goals r (length goals - r) p')

pub served-none : (Y : Yard) (goals : Placement) (n : ℕ) (p standing empty out : List ℕ) → Placed n p standing empty → Served Y goals n p out 0 p standing empty out nothing
unfolding procedure
served-none Y goals n p standing empty out k = record {
  xs = only [];
  played = tallied-none n p standing empty out nothing k;
  answer = let e : length goals - 0 ≡ length goals = omega arith in rw e (plain (carry_from Y goals 0 (length goals) p));
}
  where
    plain : (o : Outcome) → o ≡ before_all (only []) o
    plain (planned ys) = ap planned (sym (none-together ys))
    plain (stuck c) = refl

before-twice : (xs a : Made) (o : Outcome) → before_all xs (onward o (λ b. planned (together a b))) ≡ before_all (together xs a) o
unfolding onward
before-twice xs a (planned b) = ap planned (sym (together-assoc xs a b))
before-twice xs a (stuck c) = refl

module _ (Y : Yard) (goals : Placement) (r j : ℕ) (p : Placement) where
  from-planned : (a : Made) → carry Y goals r p ≡ planned a → carry_from Y goals r (suc j) p ≡ onward (carry_from Y goals (suc r) j (after p a.moves)) (λ b. planned (together a b))
  unfolding carry_from ◌next◌ onward
  from-planned a e = rw e

  from-stuck : (c : Carrier) → carry Y goals r p ≡ stuck c → carry_from Y goals r (suc j) p ≡ stuck c
  unfolding carry_from ◌next◌ onward
  from-stuck c e = rw e

module _ {Y : Yard} {goals : Placement} {n : ℕ} {p out : List ℕ} {r : ℕ} {p' standing' empty' out' : List ℕ} {m : Tally} (g : Served Y goals n p out r p' standing' empty' out' m) (here : r < length goals)
    {lent rest q standing'' empty'' : List ℕ} where
  pub served-more : {out'' : List ℕ} {b sum : Tally} → RestLent out' m rest b out'' sum → Stages (carry Y goals r p') n p' lent nothing q standing'' empty'' rest (Ok b) → Served Y goals n p out (r + 1) q standing'' empty'' out'' sum
  served-more {b = b} l s =
      let w = s.plans b refl in
      let e : length goals - r ≡ suc (length goals - (r + 1)) = omega arith in
      record {
        xs = together g.xs w.0;
        played = tallied-then g.played (on-the-rest l w.2);
        answer =
            g.answer
            ∙ rw (e, from-planned Y goals r (length goals - (r + 1)) p' w.0 w.1, before-twice g.xs w.0 (carry_from Y goals (suc r) (length goals - (r + 1)) (after p' w.0.moves)), ← w.2.moved)
            (let f : suc r ≡ r + 1 = omega arith in rw f);
      }

  pub served-stuck : {c : Named} → Stages (carry Y goals r p') n p' lent nothing q standing'' empty'' rest (Err c) → procedure Y goals p ≡ stuck c.0
  served-stuck {c = c} s =
      let e : length goals - r ≡ suc (length goals - (r + 1)) = omega arith in
      g.answer ∙ rw (e, from-stuck Y goals r (length goals - (r + 1)) p' c.0 (s.stops c refl))

pub served-all : {Y : Yard} {goals : Placement} {n : ℕ} {p out : List ℕ} {r : ℕ} {p' standing' empty' out' : List ℕ} {m : Tally} → Served Y goals n p out r p' standing' empty' out' m → length goals ≤ r
    → Stages (procedure Y goals p) n p out nothing p' standing' empty' out' (Ok m)
unfolding carry_from
served-all {goals = goals} {r = r} g h =
    let e : length goals - r ≡ 0 = omega arith in
    stages-done (g.answer ∙ rw e (ap planned (together-none g.xs))) g.played

pub home-more : {n : ℕ} {table : List ℕ} (t : Tabled n table) → n ≤ span → Loopless n table → (goals : List ℕ) (r : ℕ) (p : Placement) {standing empty out : List ℕ} {at b : Tally} {q standing' empty' out' : List ℕ}
    → Placed n p standing empty → Goals n goals p → r < length p → HomeBelow r goals p → Stages (carry t.yard goals r p) n p out at q standing' empty' out' (Ok b) → HomeBelow (r + 1) goals q
home-more {n} t most loopless goals r p {b = b} k g hr hm s =
    let x = s.plans b refl in
    let c = carry-carries t.yard (sound-of t most loopless) goals g.apart r p x.0 (record { apart = k.apart; inside = λ i h. in-bays t (k.inside i h) }) (sym g.many) hr
    (in-bays t (g.inside r (omega (arith, g.many)))) hm.home x.1 in
    record { home = λ i h. rw x.2.moved (c.1 i (omega arith)) }
