-- The bays looked after are those from i on; each turn adds the bay before them, as the paper's way home does.
-- Assumes nothing.
use Rattle.std.proofs.Common.{Err, None, Ok, Some}
use mathlib.Core.Path.{◌≡◌, sym, ◌∙◌, ap, refl}
use mathlib.Core.List.{List, [], ◌∷◌, ◌++◌}
use Prim.Native.Nat.{ℕ, suc, ◌≤◌, ◌<◌, ◌+◌, zero}
use native.Mathlib.Omega.{arith}
use native.Mathlib.Numerals.{add-one}
use lib.ListN.{length, get_or, drop, drop_of_length-le, take}
use lib.Seq.{drop-cons}
use lib.Dec.{eqb}
use borrow.Author.Tests.{eq-eqb, ne_eqb, lt-ltb, le-ltb}
use Rattle.paper.specs.Basics.{◌and◌, place_of}
use Rattle.home.specs.Homing.{Owners, Due, AtMost, Stages}
use Rattle.paper.specs.Procedure.{Made, only, together, step, Outcome, planned, stuck, or_stuck, onward, ◌next◌, home_at, way_home}
use Rattle.paper.specs.Yard.{Bay, Carrier, Yard, Placement, bay_of, carrier_at, after}
use Rattle.paper.proofs.Playing.{Apart}
use Rattle.paper.proofs.Tests.{never, by_cases}
use Rattle.words.specs.Sets.{span}
use Rattle.moving.specs.Placed.{Placed}
use Rattle.acting.specs.Acting.{Tabled, nothing, Tallied, Proceeds}
use Rattle.acting.specs.declared.Tally.{Tally}
use Rattle.acting.proofs.Acting.{tallied-none, tallied-then, tried-done, tried-failed}
use Rattle.go.specs.FromBelow.{Loopless}
use Rattle.go.specs.Going.{Linked}
use Rattle.acting.proofs.Lending.{RestLent, on-the-rest}
use Rattle.home.proofs.Settling.{Settled, Homeward, due, homed}
use Rattle.docket.specs.declared.Carrier.{Carrier as Named}

-- ## Whose goal a bay is

-- the first of the finished carriers whose goal is v is the first of all, if that one is finished
place_low : (f : ℕ) (l : List ℕ) (v : Bay) → carrier_at l v < f → carrier_at (take f l) v ≡ carrier_at l v
unfolding place_of
place_low zero l v h = absurd (omega arith)
place_low (suc f) [] v h = refl
place_low (suc f) (x ∷ l) v h = by_cases (eqb v x) (λ e. rw e) (λ e. rw e (ap suc (place_low f l v (let k = rw e at h in omega arith))))

place-high : (f : ℕ) (l : List ℕ) (v : Bay) → f ≤ length l → f ≤ carrier_at l v → carrier_at (take f l) v ≡ f
unfolding place_of
place-high zero l v m h = refl
place-high (suc f) [] v m h = absurd (omega arith)
place-high (suc f) (x ∷ l) v m h =
    by_cases (eqb v x)
    (λ e. let k = rw e at h in absurd (omega arith))
    (λ e. rw e (ap suc (place-high f l v (omega arith) (let k = rw e at h in omega arith))))

-- the same by the table of whose goal each bay is
module _ {n : ℕ} {goals owner : List ℕ} (o : Owners n goals owner) (finished : ℕ) (v : Bay) (hv : v < n) where
  pub whose-low : get_or owner v 0 < finished → get_or owner v 0 ≡ carrier_at (take finished goals) v
  whose-low low = let e = o.whose v hv in e ∙ sym (place_low finished goals v (omega (arith, e, low)))

  pub whose-high : finished ≤ length goals → finished ≤ get_or owner v 0 → finished ≡ carrier_at (take finished goals) v
  whose-high many high = sym (place-high finished goals v many (omega (arith, o.whose v hv, high)))

  whose-due : {table : List ℕ} {p : Placement} → Due table (carrier_at (take finished goals) v) finished v p → Due table (get_or owner v 0) finished v p
  whose-due d = record {
    beside = λ low away.
        let same = whose-low low in
        rw same (d.beside (rw same at low) (rw same at away));
  }

-- ## One bay

module _ {o : Outcome} {n : ℕ} {p out : List ℕ} {at : Tally} where
  pub stages-none : {standing empty : List ℕ} → o ≡ planned (only []) → Placed n p standing empty → Stages o n p out at p standing empty out (Ok at)
  stages-none {standing} {empty} e k = record {
    plans = λ m d. let same : at ≡ m = cc in (only [], e, rw (← same) (tallied-none n p standing empty out at k));
    stops = λ c d. never (cc);
  }

  pub stages-done : {p' standing' empty' out' : List ℕ} {m : Tally} {xs : Made} → o ≡ planned xs → Tallied xs n p p' standing' empty' out at out' m → Stages o n p out at p' standing' empty' out' (Ok m)
  stages-done {m = m} {xs = xs} e w = record {
    plans = λ b d. let same : m ≡ b = cc in (xs, e, rw same at w);
    stops = λ c d. never (cc);
  }

  pub stages-stuck : {p' standing' empty' out' : List ℕ} {c : Named} → o ≡ stuck c.0 → Stages o n p out at p' standing' empty' out' (Err c)
  stages-stuck {c = c} e = record {
    plans = λ m d. never (cc);
    stops = λ b d. let same : c ≡ b = cc in e ∙ ap (λ (f : Named). stuck f.0) same;
  }

module _ (Y : Yard) (goals : Placement) (finished : ℕ) (v : Bay) (p : Placement) where
  pub home-absent : (c : ℕ) → c ≡ carrier_at (take finished goals) v → finished ≤ c → home_at Y goals finished v p ≡ planned (only [])
  unfolding home_at ◌and◌
  home-absent c e h = rw (← e, le-ltb c finished h)

  module _ (c : ℕ) (e : c ≡ carrier_at (take finished goals) v) (h : c < finished) where
    pub home-there : bay_of p c ≡ v → home_at Y goals finished v p ≡ planned (only [])
    unfolding home_at ◌and◌
    home-there d = rw (← e, lt-ltb c finished h, eq-eqb (bay_of p c) v d)

    home-away : (bay_of p c ≡ v → ⊥) → home_at Y goals finished v p ≡ or_stuck c (step Y finished c v p)
    unfolding home_at ◌and◌
    home-away d = rw (← e, lt-ltb c finished h, ne_eqb (bay_of p c) v d)

    pub home-steps : {n : ℕ} {out : List ℕ} {at : Tally} {p' standing' empty' out' : List ℕ} {m : Tally} → (bay_of p c ≡ v → ⊥)
        → Proceeds (step Y finished c v p) n p out at p' standing' empty' out' (Some m) → Stages (home_at Y goals finished v p) n p out at p' standing' empty' out' (Ok m)
    unfolding or_stuck
    home-steps d a = let s = tried-done a.tries in stages-done (home-away d ∙ ap (or_stuck c) s.1) s.2

    pub home-stuck : {n : ℕ} {out : List ℕ} {at : Tally} {p' standing' empty' out' : List ℕ} {f : Named} → f.0 ≡ c → (bay_of p c ≡ v → ⊥)
        → Proceeds (step Y finished c v p) n p out at p' standing' empty' out' None → Stages (home_at Y goals finished v p) n p out at p' standing' empty' out' (Err f)
    unfolding or_stuck
    home-stuck q d a = stages-stuck (home-away d ∙ ap (or_stuck c) (tried-failed a.tries) ∙ ap stuck (sym q))

-- ## All bays

-- the bays from i on are looked after
pub record Homed (Y : Yard) (goals : Placement) (finished : ℕ) (bays : List Bay) (n : ℕ) (p out : List ℕ) (at : Tally) (i : ℕ) (p' standing' empty' out' : List ℕ) (m : Tally) : Type 0 where
  pub xs : Made
  pub answer : way_home Y goals finished (drop i bays) p ≡ planned xs
  pub played : Tallied xs n p p' standing' empty' out at out' m

pub homed-none : (Y : Yard) (goals : Placement) (finished : ℕ) (bays : List Bay) (n : ℕ) (p standing empty out : List ℕ) (at : Tally) (i : ℕ) → length bays ≤ i → Placed n p standing empty
    → Homed Y goals finished bays n p out at i p standing empty out at
homed-none Y goals finished bays n p standing empty out at i h k = record {
  xs = only [];
  answer = rw (drop_of_length-le bays h) (unfold way_home in refl);
  played = tallied-none n p standing empty out at k;
}

module _ (Y : Yard) (goals : Placement) (finished : ℕ) (p : Placement) where
  home-cons : (v : Bay) (vs : List Bay) (a b : Made) → way_home Y goals finished vs p ≡ planned a → home_at Y goals finished v (after p a.moves) ≡ planned b → way_home Y goals finished (v ∷ vs) p ≡ planned (together a b)
  unfolding way_home ◌next◌ onward
  home-cons v vs a b e d = rw (e, d)

  stuck-cons : (v : Bay) (vs : List Bay) (a : Made) (c : Carrier) → way_home Y goals finished vs p ≡ planned a → home_at Y goals finished v (after p a.moves) ≡ stuck c → way_home Y goals finished (v ∷ vs) p ≡ stuck c
  unfolding way_home ◌next◌ onward
  stuck-cons v vs a c e d = rw (e, d)

  -- what is stuck from i on is stuck
  stuck-whole : (bays : List Bay) (i : ℕ) (c : Carrier) → way_home Y goals finished (drop i bays) p ≡ stuck c → way_home Y goals finished bays p ≡ stuck c
  unfolding way_home ◌next◌ onward
  stuck-whole bays zero c e = e
  stuck-whole [] (suc i) c e = e
  stuck-whole (v ∷ vs) (suc i) c e = rw (stuck-whole vs i c e)

module _ {Y : Yard} {goals : Placement} {finished : ℕ} {bays : List Bay} {n : ℕ} {p out : List ℕ} {at : Tally} {i : ℕ} {p' standing' empty' out' : List ℕ} {m : Tally}
    (g : Homed Y goals finished bays n p out at (i + 1) p' standing' empty' out' m) (here : i < length bays) {lent rest q standing'' empty'' : List ℕ} where
  pub homed_more : {out'' : List ℕ} {b sum : Tally} → RestLent out' m rest b out'' sum → Stages (home_at Y goals finished (get_or bays i 0) p') n p' lent nothing q standing'' empty'' rest (Ok b)
      → Homed Y goals finished bays n p out at i q standing'' empty'' out'' sum
  homed_more {b = b} l s =
      let w = s.plans b refl in
      record {
        xs = together g.xs w.0;
        answer = rw (drop-cons bays i 0) (home-cons Y goals finished p (get_or bays i 0) (drop (suc i) bays) g.xs w.0 (rw add-one at g.answer) (rw g.played.moved at w.1));
        played = tallied-then g.played (on-the-rest l w.2);
      }

  pub homed-stops : {c : Named} → Stages (home_at Y goals finished (get_or bays i 0) p') n p' lent nothing q standing'' empty'' rest (Err c) → way_home Y goals finished bays p ≡ stuck c.0
  homed-stops {c = c} s =
      stuck-whole Y goals finished p bays i c.0
      (rw (drop-cons bays i 0) (stuck-cons Y goals finished p (get_or bays i 0) (drop (suc i) bays) g.xs c.0 (rw add-one at g.answer) (rw g.played.moved at (s.stops c refl))))

pub homed_all : {Y : Yard} {goals : Placement} {finished : ℕ} {bays : List Bay} {n : ℕ} {p out : List ℕ} {at : Tally} {p' standing' empty' out' : List ℕ} {m : Tally}
    → Homed Y goals finished bays n p out at 0 p' standing' empty' out' m → Stages (way_home Y goals finished bays p) n p out at p' standing' empty' out' (Ok m)
homed_all g = stages-done g.answer g.played

-- ## The path

pub split_at : (bays : List Bay) (l : List Bay) (i : ℕ) → i < length bays → bays ++ l ≡ take i bays ++ (get_or bays i 0 ∷ (drop (suc i) bays ++ l))
split_at [] l i h = absurd (omega arith)
split_at (x ∷ xs) l zero h = refl
split_at (x ∷ xs) l (suc i) h = ap (λ (t : List Bay). x ∷ t) (split_at xs l i (omega arith))

pub linked-all : (n : ℕ) (table : List ℕ) (u : Bay) (bays l : List Bay) (i : ℕ) → i < length bays → Linked n table u (bays ++ l) → get_or bays i 0 < n
linked-all n table u [] l i h k = absurd (omega arith)
linked-all n table u (x ∷ xs) l zero h k = k.0
linked-all n table u (x ∷ xs) l (suc i) h k = linked-all n table x xs l i (omega arith) k.2

-- ## The turns

pub at_most : {k : ℕ} {m : Tally} → m.crossings ≤ k → AtMost k (Ok m)
at_most {m = m} h = record { few = λ b e. let same : m ≡ b = cc in rw same at h }

pub at-most-stuck : {k : ℕ} {c : Named} → AtMost k (Err c)
at-most-stuck = record { few = λ b e. never (cc) }

module _ {n : ℕ} {table goals : List ℕ} {finished : ℕ} {bays p₀ : List ℕ} (h : Homeward n table goals finished bays p₀) (goals-apart : Apart goals) (hf : finished ≤ length goals)
    (i : ℕ) (here : i < length bays) (p : Placement) (len : length p ≡ length goals)
    (settled : Settled goals finished h.first (bays ++ (h.last ∷ [])) (drop (i + 1) bays ++ (h.last ∷ [])) p) where
  behind : Settled goals finished h.first (bays ++ (h.last ∷ [])) (drop (suc i) bays ++ (h.last ∷ [])) p
  behind = rw add-one at settled

  pub turn_low : get_or bays i 0 < n
  turn_low = linked-all n table h.first bays (h.last ∷ []) i here h.linked

  pub turn-due : {owner : List ℕ} → Owners n goals owner → Due table (get_or owner (get_or bays i 0) 0) finished (get_or bays i 0) p
  turn-due o =
      whose-due o finished (get_or bays i 0) turn_low
      (due goals goals-apart finished hf h.first (bays ++ (h.last ∷ [])) h.once (take i bays) (get_or bays i 0) (drop (suc i) bays ++ (h.last ∷ []))
      (split_at bays (h.last ∷ []) i here) p len behind n table h.linked)

  pub turn-homed : (t : Tabled n table) → n ≤ span → Loopless n table → {standing empty out : List ℕ} {at b : Tally} {q standing' empty' out' : List ℕ} → Placed n p standing empty
      → Stages (home_at t.yard goals finished (get_or bays i 0) p) n p out at q standing' empty' out' (Ok b)
      → Settled goals finished h.first (bays ++ (h.last ∷ [])) (drop i bays ++ (h.last ∷ [])) q
  turn-homed t most loopless {b = b} k s =
      let w = s.plans b refl in
      rw (w.2.moved, drop-cons bays i 0)
      (homed goals goals-apart finished hf h.first (bays ++ (h.last ∷ [])) h.once (take i bays) (get_or bays i 0) (drop (suc i) bays ++ (h.last ∷ []))
      (split_at bays (h.last ∷ []) i here) p len behind t most loopless k turn_low h.linked w.0 w.1)
