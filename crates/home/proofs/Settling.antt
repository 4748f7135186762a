-- Whoever is displaced stands one bay back on the path, so it is beside its goal when its turn comes, and nobody else that is finished
-- stands there: its step brings it home and displaces nobody.
-- Assumes nothing.
use mathlib.Core.Path.{◌≡◌, sym, ◌∙◌, ap, refl}
use mathlib.Core.Bool.{true, false, not}
use mathlib.Core.List.{List, [], ◌∷◌, ◌++◌}
use Prim.Native.Nat.{ℕ, ◌≤◌, ◌<◌}
use native.Mathlib.Omega.{arith}
use lib.ListN.{length, take, length-take}
use lib.Dec.{eqb, ltb}
use borrow.Author.Tests.{eqb-false, eqb-true, not-true, ltb-true, lt-ltb}
use mathlib.Core.Logic.{◌⊎◌, inl, inr, ⊎_elim}
use lib.Seq.{get_or-take}
use Rattle.paper.specs.Basics.{◌and◌, In, Out, NoDup}
use Rattle.home.specs.Homing.{Due}
use Rattle.paper.specs.Procedure.{Made, only, step, planned, home_at}
use Rattle.paper.specs.Text.{same}
use Rattle.paper.specs.Yard.{Bay, Carrier, Placement, bay_of, carrier_at, Crossing, after}
use Rattle.paper.proofs.Carrying.{or-stop, Pair, follows-in, place_of-in}
use Rattle.paper.proofs.Members.{out-cons}
use Rattle.paper.proofs.Playing.{Apart, place_of-there, bay-in}
use Rattle.paper.proofs.Tests.{by_cases, not-both, and_left, and_right, and_both}
use Rattle.words.specs.Sets.{span, mem_row}
use Rattle.moving.specs.Placed.{Placed}
use Rattle.acting.specs.Acting.{Tabled}
use Rattle.go.specs.FromBelow.{Loopless, CanStep}
use Rattle.go.specs.Going.{Linked}
use Rattle.go.proofs.FromBelow.{stepped-of}

-- each finished carrier is home, or one bay back on the path, and its goal is none of these bays
abbrev pub Settled : Placement → ℕ → Bay → List Bay → List Bay → Placement → Type 0
Settled goals finished u path vs p =
    (c : Carrier) → c < finished → (bay_of p c ≡ bay_of goals c) ⊎ (Pair u path (bay_of p c) (bay_of goals c) × Out (bay_of goals c) vs)

-- the bays lie on a path between its first and its last bay, and only carriers on it are displaced, by one bay
pub record Homeward (n : ℕ) (table goals : List ℕ) (finished : ℕ) (bays : List Bay) (p : Placement) : Type 0 where
  pub first : Bay
  pub last : Bay
  pub linked : Linked n table first (bays ++ (last ∷ []))
  pub once : NoDup (first ∷ (bays ++ (last ∷ [])))
  pub settled : Settled goals finished first (bays ++ (last ∷ [])) (last ∷ []) p

pub pair-linked : (n : ℕ) (table : List ℕ) (u : Bay) (l : List Bay) (a b : Bay) → Linked n table u l → Pair u l a b → mem_row table a b ≡ true
pair-linked n table u [] a b ch h = absurd h
pair-linked n table u (x ∷ xs) a b ch h = ⊎_elim (λ k. rw (k.0, k.1) ch.1) (λ k. pair-linked n table x xs a b ch.2 k) h

module _ (goals : Placement) (goals-apart : Apart goals) (finished : ℕ) (hf : finished ≤ length goals) (u₀ : Bay) (path₀ : List Bay) (nodup : NoDup (u₀ ∷ path₀))
    (pre : List Bay) (v : Bay) (vs : List Bay) (split : path₀ ≡ pre ++ (v ∷ vs)) (p : Placement) (len : length p ≡ length goals)
    (settled : Settled goals finished u₀ path₀ vs p) where
  abbrev whose : Carrier
  whose = carrier_at (take finished goals) v

  -- that carrier's goal is v, and no other's is
  whose-goal : whose < finished → bay_of goals whose ≡ v
  whose-goal h =
      let t : whose < length (take finished goals) = rw length-take (omega arith) in
      sym (get_or-take finished goals whose 0 h) ∙ place_of-in (take finished goals) v t

  goal-whose : (c : Carrier) → c < finished → bay_of goals c ≡ v → (c ≡ whose) × (whose < finished)
  goal-whose c h e =
      let i : In v (take finished goals) = rw (get_or-take finished goals c 0 h ∙ e) at (bay-in (take finished goals) c (rw length-take (omega arith))) in
      let t : whose < finished = let k = rw length-take at (place_of-there (take finished goals) v i) in omega arith in
      (goals-apart c whose (omega arith) (omega arith) (e ∙ sym (whose-goal t)), t)

  -- nobody else that is finished stands at v
  nobody-else : (c : Carrier) → c < finished → eqb c whose ≡ false → bay_of p c ≡ v → ⊥
  nobody-else c h ne e =
      ⊎_elim
      (λ k. eqb-false c whose ne (goal-whose c h (sym k ∙ e)).0)
      (λ k. not-both (follows-in pre u₀ v vs (bay_of goals c) (rw split at nodup) (rw (e, split) at k.0)) k.1)
      (settled c h)

  -- one more bay is looked after
  still : (q : Placement) → ((c : Carrier) → c < finished → eqb c whose ≡ false → bay_of q c ≡ bay_of p c) → (whose < finished → bay_of q whose ≡ v) → Settled goals finished u₀ path₀ (v ∷ vs) q
  still q same there c h =
      by_cases (eqb c whose)
      (λ e.
      let i = eqb-true c whose e in
      let t : whose < finished = rw i at h in
      inl (rw i (there t ∙ sym (whose-goal t))))
      (λ e. ⊎_elim
      (λ k. inl (same c h e ∙ k))
      (λ k. inr (
        rw (same c h e) k.0,
        out-cons (bay_of goals c) v vs (λ d. eqb-false c whose e (goal-whose c h d).0) k.1,
      ))
      (settled c h))

  pub due : (n : ℕ) (table : List ℕ) → Linked n table u₀ path₀ → Due table whose finished v p
  due n table linked = record {
    beside = λ h away. ⊎_elim
        (λ k. absurd (away (k ∙ whose-goal h)))
        (λ k. pair-linked n table u₀ path₀ (bay_of p whose) v linked (rw (whose-goal h) at k.0))
        (settled whose h);
  }

  -- after home_at, in a yard that the table shows
  module _ {n : ℕ} {table : List ℕ} (t : Tabled n table) (most : n ≤ span) (loopless : Loopless n table) {standing empty : List ℕ} (k : Placed n p standing empty) (hv : v < n)
      (linked : Linked n table u₀ path₀) where
    pub homed : (m : Made) → home_at t.yard goals finished v p ≡ planned m → Settled goals finished u₀ path₀ (v ∷ vs) (after p m.moves)
    unfolding home_at after
    homed m h =
        by_cases (ltb whose finished and not (eqb (bay_of p whose) v))
        (λ e.
        let low : whose < finished = ltb-true whose finished (and_left _ _ e) in
        let away : eqb (bay_of p whose) v ≡ false = not-true (eqb (bay_of p whose) v) (and_right _ _ e) in
        let rail = (due n table linked).beside low (eqb-false (bay_of p whose) v away) in
        let can : CanStep n table finished whose v p = record {
          carrier_there = omega (arith, low, hf, len);
          finished_there = omega (arith, hf, len);
          bay_there = hv;
          rail = rail;
          loopless = loopless;
        } in
        let s = stepped-of t most can k m (or-stop whose (step t.yard finished whose v p) m (rw e at h)) in
        still (after p m.moves)
        (λ c j ne. ⊎_elim (λ i. i) (λ i. absurd (nobody-else c j ne i.0)) (s.others c j ne))
        (λ j. s.arrives))
        (λ e.
        let z : only [] ≡ m = let y = rw e at h in cc in
        rw (← z) (still p (λ c j ne. refl)
        (λ j. by_cases (eqb (bay_of p whose) v)
        (λ i. eqb-true (bay_of p whose) v i)
        (λ i. not-both (and_both _ _ (lt-ltb whose finished j) (ap not i)) e))))
