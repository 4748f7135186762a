-- Once r has gone its path it is at its goal, and whom it met is one bay back: that is what the way home asks. So the two, one after the
-- other, are the paper's carry.
-- Assumes nothing.
use Rattle.std.proofs.Common.{Err, Ok}
use mathlib.Core.Path.{◌≡◌, sym, ◌∙◌, ap, refl}
use mathlib.Core.List.{List, [], ◌∷◌, ◌++◌, drop_last}
use mathlib.Core.Option.{some}
use Prim.Native.Nat.{ℕ, zero, suc, ◌≤◌, ◌<◌, ◌-◌, ◌+◌}
use native.Mathlib.Omega.{arith}
use native.Mathlib.Numerals.{add-one}
use lib.ListN.{length, get_or, drop, take}
use lib.Dec.{eqb}
use lib.Seq.{get_or-drop, get_or-take}
use borrow.Author.Tests.{eqb-false, eqb-true}
use mathlib.Core.Logic.{inl, inr, ⊎_elim}
use Rattle.paper.specs.Procedure.{Made, together, Outcome, planned, stuck, onward, path_of, go, way_home, carry}
use Rattle.paper.specs.Yard.{Bay, Carrier, Placement, bay_of, after}
use Rattle.home.proofs.FromBelow.{sound-of}
use Rattle.paper.proofs.Carrying.{Gone, go-goes}
use Rattle.paper.proofs.Members.{nothing-in-nil, out-cons}
use Rattle.paper.proofs.Swapping.{Chain}
use Rattle.paper.proofs.Tests.{by_cases, never, never-some, some_same}
use Rattle.home.specs.FromBelow.{plan_of, Linked}
use Rattle.words.specs.Sets.{span}
use Rattle.home.specs.Homing.{Stages}
use Rattle.paper.proofs.Making.{together-none}
use Rattle.moving.specs.Placed.{Placed}
use Rattle.acting.specs.Acting.{Tabled, Ready, Tallied, nothing}
use Rattle.acting.specs.declared.Tally.{Tally}
use Rattle.acting.proofs.Acting.{tallied-then}
use Rattle.home.proofs.FromBelow.{in-bays}
use Rattle.home.specs.FromBelow.{Loopless, BaysBelow}
use Rattle.home.proofs.Homing.{stages-done}
use Rattle.home.proofs.Settling.{Settled, Homeward}
use Rattle.along.specs.Along.{Goals, HomeBelow, EndsAt, OnPath, TurnAsks, GoalAsks, GoesThere}
use Rattle.along.specs.declared.ToGoal.{ToGoal}
use Rattle.along.proofs.Along.{ahead-length, carry-is, way_of}
use Rattle.carry.specs.Carrying.{Settles}
use Rattle.home.specs.Staged.{Staged}
use Rattle.docket.specs.declared.Carrier.{Carrier as Named}

-- ## Lists

drop-last-short : (l : List Bay) → length l < 2 → drop_last l ≡ []
drop-last-short [] h = refl
drop-last-short (x ∷ []) h = refl
drop-last-short (x ∷ y ∷ l) h = absurd (omega arith)

drop-last-length : (l : List Bay) → length (drop_last l) ≡ length l - 1
drop-last-length [] = refl
drop-last-length (x ∷ []) = refl
drop-last-length (x ∷ y ∷ l) = let h = drop-last-length (y ∷ l) in omega arith

drop-last-get : (l : List Bay) (i : ℕ) → i < length (drop_last l) → get_or (drop_last l) i 0 ≡ get_or l i 0
drop-last-get [] i h = absurd (omega arith)
drop-last-get (x ∷ []) i h = absurd (omega arith)
drop-last-get (x ∷ y ∷ l) zero h = refl
drop-last-get (x ∷ y ∷ l) (suc i) h = drop-last-get (y ∷ l) i (omega arith)

last-split : (u : Bay) (l : List Bay) (v : Bay) → 1 ≤ length l → EndsAt u l v → l ≡ drop_last l ++ (v ∷ [])
last-split u [] v h e = absurd (omega arith)
last-split u (x ∷ []) v h e = ap (λ (z : Bay). z ∷ []) e
last-split u (x ∷ y ∷ l) v h e = ap (λ (t : List Bay). x ∷ t) (last-split x (y ∷ l) v (omega arith) e)

-- ## The path in its room

-- the bays between the first of a path and its last, the path being the first k in the room
abbrev pub between : ℕ → List ℕ → List Bay
between k room = drop_last (drop 1 (take k room))

pub between-length : (k : ℕ) (room : List ℕ) → k ≤ length room → length (between k room) ≡ k - 2
between-length k room h = omega (arith, drop-last-length (drop 1 (take k room)), ahead-length k room h)

pub between-get : (k : ℕ) (room : List ℕ) → k ≤ length room → (i : ℕ) → i < length (between k room) → get_or room (i + 1) 0 ≡ get_or (between k room) i 0
between-get k room h i low =
    let inside : 1 + i < k = omega (arith, between-length k room h, low) in
    let e : i + 1 ≡ 1 + i = omega arith in
    rw e (sym (drop-last-get (drop 1 (take k room)) i low ∙ get_or-drop 1 (take k room) i 0 ∙ get_or-take k room (1 + i) 0 inside))

pub settles : {finished : ℕ} {p settled : List ℕ} {z : Staged} → BaysBelow finished p settled → Settles finished p settled z
settles s = record { below = λ m e. s }

pub settles-stuck : {finished : ℕ} {p settled : List ℕ} {c : Named} → Settles finished p settled (Err c)
settles-stuck = record { below = λ m e. never (cc) }

-- ## Outcomes

plan-some : (o : Outcome) (xs : Made) → plan_of o ≡ some xs → o ≡ planned xs
plan-some (planned ys) xs e = ap planned (some_same e)
plan-some (stuck c) xs e = never-some xs e

linked-chain : {n : ℕ} {table : List ℕ} (t : Tabled n table) → n ≤ span → (u : Bay) (l : List Bay) (v : Bay) → u < n → Linked n table u l → EndsAt u l v → Chain t.yard u l v
linked-chain t most u [] v h l e = e
linked-chain t most u (x ∷ xs) v h l e = (sym (t.joins.same u x h (omega (arith, l.0))) ∙ l.1, linked-chain t most x xs v l.0 l.2 e)

-- ## Along the path

module _ {n : ℕ} {table : List ℕ} (t : Tabled n table) (most : n ≤ span) (loopless : Loopless n table) (goals : List ℕ) (r : Carrier) (p : Placement) {standing empty : List ℕ}
    (k : Placed n p standing empty) (g : Goals n goals p) (hr : r < length p) (hm : HomeBelow r goals p) (path : List ℕ) (way : OnPath n table (bay_of p r) (bay_of goals r) path) where
  abbrev gone : Outcome
  gone = go t.yard goals r way.ahead p

  module _ (a : Made) (e : plan_of gone ≡ some a) where
    goes-there : Gone t.yard (sound-of t most loopless) goals r (bay_of p r) way.ahead (bay_of goals r) p a.moves
    goes-there =
        go-goes t.yard (sound-of t most loopless) goals r way.ahead (bay_of p r) (bay_of goals r) p a
        (record { apart = k.apart; inside = λ c h. in-bays t (k.inside c h) }) hr refl
        (linked-chain t most (bay_of p r) way.ahead (bay_of goals r) (k.inside r hr) way.linked way.ends) way.once (plan-some gone a e)

    settled-after : Settled goals (suc r) (bay_of p r) way.ahead (bay_of goals r ∷ []) (after p a.moves)
    settled-after c h =
        by_cases (eqb c r)
        (λ d. inl (rw (eqb-true c r d) goes-there.arrives))
        (λ d.
        let low : c < r = let f = eqb-false c r d in omega arith in
        ⊎_elim
        (λ i. inl (i ∙ hm.home c low))
        (λ i. inr (
          rw (hm.home c low) at i,
          out-cons (bay_of goals c) (bay_of goals r) [] (λ f. eqb-false c r d (g.apart c r (omega (arith, g.many)) (omega (arith, g.many)) f)) (nothing-in-nil (bay_of goals c)),
        ))
        (goes-there.others c low))

    homeward : (q : Placement) → q ≡ after p a.moves → 1 ≤ length way.ahead → Homeward n table goals (r + 1) (drop_last way.ahead) q
    homeward q moved long =
        let split = sym (last-split (bay_of p r) way.ahead (bay_of goals r) long way.ends) in
        rw add-one (record {
          first = bay_of p r;
          last = bay_of goals r;
          linked = rw split way.linked;
          once = rw split way.once;
          settled = rw (split, moved) settled-after;
        })

  module _ (short : some path ≡ path_of t.yard goals r p) where
    turn_is : carry t.yard goals r p ≡ onward gone (λ a. onward (way_home t.yard goals (suc r) (drop_last way.ahead) (after p a.moves)) (λ b. planned (together a b)))
    turn_is = carry-is t.yard goals r p way.starts short

    module _ (a : Made) (e : plan_of gone ≡ some a) where
      carried-short : {out : List ℕ} {at : Tally} {p' standing' empty' out' : List ℕ} {m : Tally} → length way.ahead < 2 → Tallied a n p p' standing' empty' out at out' m
          → Stages (carry t.yard goals r p) n p out at p' standing' empty' out' (Ok m)
      unfolding onward way_home
      carried-short h w = stages-done (turn_is ∙ rw (plan-some gone a e, drop-last-short way.ahead h) (ap planned (together-none a))) w

      carried-home : {out out₁ : List ℕ} {at m : Tally} {q standing₁ empty₁ p' standing' empty' out' : List ℕ} {z : Staged} → Tallied a n p q standing₁ empty₁ out at out₁ m
          → Stages (way_home t.yard goals (r + 1) (drop_last way.ahead) q) n q out₁ m p' standing' empty' out' z → Stages (carry t.yard goals r p) n p out at p' standing' empty' out' z
      unfolding onward
      carried-home w s' = let s = rw add-one at s' in record {
        plans = λ b d. let x = s.plans b d in (together a x.0, turn_is ∙ rw (plan-some gone a e, ← w.moved, x.1), tallied-then w x.2);
        stops = λ c d. turn_is ∙ rw (plan-some gone a e, ← w.moved, s.stops c d);
      }

-- ## The path that was found

module _ {table p standing empty settled : List ℕ} (t : Tabled (length standing) table) (ready : Ready table p standing empty) {to : ToGoal}
    (turn : TurnAsks to table p standing settled) (b : GoalAsks to p standing)
    {out q standing₁ empty₁ out₁ room : List ℕ} {m : ℕ} {c : Tally} (g : GoesThere t.yard b.goals to.carrier.0 (length standing) p out q standing₁ empty₁ out₁ room m c) where
  abbrev n : ℕ
  n = length standing

  abbrev r : Carrier
  r = to.carrier.0

  abbrev there : OnPath n table (bay_of p r) (bay_of b.goals r) (take m room)
  there = way_of t turn ready b room m g.path

  ahead-there : drop 1 (take m room) ≡ there.ahead
  ahead-there = ap (drop 1) there.starts

  went : plan_of (go t.yard b.goals r there.ahead p) ≡ some g.made
  went = rw ahead-there at g.goes

  pub gone-homeward : 2 ≤ length (take m room) → Homeward n table b.goals (r + 1) (between m room) q
  gone-homeward long =
      let l = ap length there.starts in
      rw (ap drop_last ahead-there)
      (homeward t ready.most turn.loopless b.goals r p ready.placed b.each turn.carrier_there b.below (take m room) there g.made went q g.played.moved (omega arith))

  pub gone-short : length (take m room) < 3 → Stages (carry t.yard b.goals r p) n p out nothing q standing₁ empty₁ out₁ (Ok c)
  gone-short h =
      let l = ap length there.starts in
      carried-short t ready.most turn.loopless b.goals r p ready.placed b.each turn.carrier_there b.below (take m room) there g.path g.made went
      (omega arith) g.played

  pub gone-home : {p' standing' empty' out' : List ℕ} {z : Staged} → Stages (way_home t.yard b.goals (r + 1) (between m room) q) n q out₁ c p' standing' empty' out' z
      → Stages (carry t.yard b.goals r p) n p out nothing p' standing' empty' out' z
  gone-home s =
      carried-home t ready.most turn.loopless b.goals r p ready.placed b.each turn.carrier_there b.below (take m room) there g.path g.made went g.played
      (rw (ap drop_last ahead-there) at s)
