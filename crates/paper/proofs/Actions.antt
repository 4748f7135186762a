-- Runs of actions: what succeeds did so in both its parts. Two carriers go one behind the other: each crossing is into an empty bay, so both are legal.
use mathlib.Core.Path.{◌≡◌, sym, ap, ◌∙◌}
use mathlib.Core.Bool.{true, false}
use mathlib.Core.List.{[], ◌∷◌}
use mathlib.Core.Option.{some}
use Prim.Native.Nat.{ℕ, ◌<◌}
use lib.Dec.{eqb}
use lib.ListN.{length, length-set}
use borrow.Author.Tests.{eqb-false, ne_eqb}
use Rattle.paper.specs.Basics.{Out}
use Rattle.paper.specs.Yard.{Bay, Carrier, Yard, Placement, crossing, bay_of, move, after, joined, legal_plan}
use Rattle.paper.specs.Procedure.{Made, only, together, Action, ◌then◌, cross}
use Rattle.paper.proofs.Tests.{by-option, not-both, never-some}
use Rattle.paper.proofs.Playing.{Apart, Legal, legal-of, bay-in, move-self, move-other, move-apart, move-empties, move-out}

pub eqb_comm : (a b : ℕ) → eqb a b ≡ false → eqb b a ≡ false
eqb_comm a b e = ne_eqb b a (λ q. eqb-false a b e (sym q))

pub same-moves : {a b : Made} → a ≡ b → a.moves ≡ b.moves
same-moves e = ap (λ (m : Made). m.moves) e

-- both parts of a run of two actions
pub then-split : {P : Type 0} (f g : Action) (p : Placement) (m : Made) → (f then g) p ≡ some m
    → ((a b : Made) → f p ≡ some a → g (after p a.moves) ≡ some b → m ≡ together a b → P) → P
unfolding ◌then◌
then-split f g p m h k =
    by-option (f p)
    (λ e. never-some m (rw e at h))
    (λ a e. by-option (g (after p a.moves))
    (λ d. never-some m (rw (e, d) at h))
    (λ b d. let z = rw (e, d) at h in k a b e d (cc)))

pub then_runs : (f g : Action) (p : Placement) (a b : Made) → f p ≡ some a → g (after p a.moves) ≡ some b → (f then g) p ≡ some (together a b)
unfolding ◌then◌
then_runs f g p a b h k = rw (h, k)

pub cross-some : (c : Carrier) (to : Bay) (p : Placement) (m : Made) → cross c to p ≡ some m → m ≡ only (crossing c (bay_of p c) to ∷ [])
unfolding cross
cross-some c to p m h = cc

pub cross-split : {P : Type 0} (c : Carrier) (to : Bay) (g : Action) (p : Placement) (m : Made) → (cross c to then g) p ≡ some m
    → ((b : Made) → g (move p (crossing c (bay_of p c) to)) ≡ some b → m ≡ together (only (crossing c (bay_of p c) to ∷ [])) b → P) → P
unfolding ◌then◌ cross after
cross-split c to g p m h k =
    by-option (g (move p (crossing c (bay_of p c) to)))
    (λ d. never-some m (rw d at h))
    (λ b d. let z = rw d at h in k b d (cc))

module _ (Y : Yard) (L M : Carrier) (differ : eqb L M ≡ false) where
  -- The leader crosses from u to x and the follower from w to u.
  pub record Pulled (u w x : Bay) (p : Placement) : Type 0 where
    pub apart : Apart (move (move p (crossing L u x)) (crossing M w u))
    pub leader : bay_of (move (move p (crossing L u x)) (crossing M w u)) L ≡ x
    pub follower : bay_of (move (move p (crossing L u x)) (crossing M w u)) M ≡ u
    pub second-bay : bay_of (move p (crossing L u x)) M ≡ w
    pub both-legal : legal_plan Y p (crossing L u x ∷ crossing M w u ∷ []) ≡ true
    pub leaves : Out w (move (move p (crossing L u x)) (crossing M w u))
    pub spares : (z : Bay) → Out z p → (z ≡ x → ⊥) → Out z (move (move p (crossing L u x)) (crossing M w u))

  pub pulled : (u w x : Bay) (p : Placement) → Apart p → L < length p → M < length p → bay_of p L ≡ u → bay_of p M ≡ w
      → joined Y u x ≡ true → joined Y w u ≡ true → Out x p → Pulled u w x p
  unfolding legal_plan
  pulled u w x p apart hL hM at-L at-M ux wu o =
      let c = crossing L u x in
      let l : Legal Y p c = record { there = hL; stands = at-L; rail = ux; free = o } in
      let q = move p c in
      let m : bay_of q M ≡ w = move-other Y p c l M (eqb_comm L M differ) ∙ at-M in
      let d = crossing M w u in
      let k : Legal Y q d = record { there = rw length-set hM; stands = m; rail = wu; free = move-empties Y p c l apart } in
      record {
        apart = move-apart Y q d k (move-apart Y p c l apart);
        leader = move-other Y q d k L differ ∙ move-self Y p c l;
        follower = move-self Y q d k;
        second-bay = m;
        both-legal = rw (legal-of Y p c l, legal-of Y q d k);
        leaves = move-empties Y q d k (move-apart Y p c l apart);
        spares = λ z o n. move-out Y q d k z (move-out Y p c l z o n) (λ e. not-both (rw at-L at (bay-in p L hL)) (rw e at o));
      }
