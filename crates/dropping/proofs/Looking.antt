-- Each look keeps what stands between two cuts: a name with nothing to look at is passed, a name without a trip is passed for good, and a
-- trip is cut.
use mathlib.Core.Path.{◌≡◌, refl, sym, ◌∙◌, ap}
use mathlib.Core.Bool.{Bool, true, false, not}
use mathlib.Core.List.{List}
use mathlib.Core.Option.{Option, none, some}
use Prim.Native.Nat.{ℕ, zero, suc, ◌≤◌, ◌<◌, ◌+◌, ◌*◌, ◌-◌}
use native.Mathlib.Omega.{arith}
use lib.Dec.{eqb, ltb}
use lib.ListN.{length, get_or, drop, length-map, replicate, length-replicate}
use borrow.Author.Tests.{eqb-true, eqb-false, eq-eqb, ltb-true, ltb-false}
use Rattle.paper.specs.Basics.{◌and◌}
use Rattle.paper.specs.Limits.{most_crossings}
use Rattle.paper.specs.Yard.{Crossing, crossings, named, unpack}
use Rattle.paper.proofs.Tests.{by_cases, by-option, and-true}
use Rattle.words.specs.Sets.{mem, Lowest}
use Rattle.trips.specs.Trips.{cut, shorten}
use Rattle.trips.specs.Names.{left, last_place, drop_trip}
use Rattle.trips.proofs.Dropping.{cut-legal}
use Rattle.trips.proofs.Shortened.{cut-shorter, cuts-done, shorten-cut}
use Rattle.trips.proofs.Naming.{NoTrip, cut_at, cut-ends, left-all}
use Rattle.trips.proofs.Freeing.{Noted, freed, trip-fewer, trip-length}
use Rattle.returning.specs.Returns.{name_at, last_from}
use Rattle.dropping.specs.Going.{Lawful, Going, rank}

same_length : (plan gone : List ℕ) → length gone ≡ length plan → length gone ≡ length (crossings plan)
same_length plan gone h = h ∙ sym (length-map plan unpack)

-- by whether k is the name at hand
at-hand : {P : Type 0} (k i : ℕ) → k < i + 1 → (k ≡ i → P) → (k < i → P) → P
at-hand k i h f g = by_cases (eqb k i) (λ z. f (eqb-true k i z)) (λ z. g (omega (arith, eqb-false k i z)))

-- a return does not come before the leaving
last_up : (i : ℕ) (o : Option ℕ) → i ≤ name_at i (suc i) o
last_up i none = omega arith
last_up i (some d) = omega arith

pub last-not-before : (x : Crossing) (xs : List Crossing) (gone : List ℕ) (i r : ℕ) → r ≡ last_from x xs gone i (suc i) → i ≤ r
last-not-before x xs gone i r e = rw e (last_up i (last_place x.carrier x.from (drop (suc i) gone) (drop (suc i) xs)))

rank-on : (a l i : ℕ) → i < l → a + (l - (i + 1)) < a + (l - i)
rank-on a l i h = omega arith

times_more : (a a' l : ℕ) → a' < a → a' * suc l + suc l ≤ a * suc l
times_more zero a' l h = absurd (omega arith)
times_more (suc a) a' l h =
    by_cases (eqb a' a)
    (λ z. let e = eqb-true a' a z in rw e (omega arith))
    (λ z. let ih = times_more a a' l (omega (arith, eqb-false a' a z)) in omega arith)

rank_less : (a a' l u v : ℕ) → a' < a → a' * suc l + (l - u) < a * suc l + (l - v)
rank_less a a' l u v h = let z = times_more a a' l h in omega arith

module _ (plan gone todo : List ℕ) (i : ℕ) (inside : i < length plan) (going : Going plan gone todo i) where
  abbrev xs : List Crossing
  xs = crossings plan

  pub rank-next : rank plan gone (i + 1) < rank plan gone i
  unfolding rank
  rank-next = rank-on (length (left gone xs) * suc (length plan)) (length plan) i inside

  and-false : (a : Bool) → a and false ≡ false
  unfolding ◌and◌
  and-false true = refl
  and-false false = refl

  -- a name that is dropped, or at which no trip begins, is taken out of the set
  pub look-passed : (todo' : List ℕ) → length todo' ≡ length todo → ((k : ℕ) → mem todo' k ≡ mem todo k and not (eqb k i))
      → (get_or gone i 0 ≡ 0 → NoTrip gone xs i) → Going plan gone todo' (i + 1)
  unfolding ◌and◌
  look-passed todo' long out none_here = record {
    long_gone = going.long_gone;
    room = omega (arith, going.room, long);
    held = omega (arith, going.held, long);
    within = omega (arith, going.room, long);
    lawful = going.lawful;
    whole = going.whole;
    tested = λ k l z t.
        by_cases (eqb k i)
        (λ e. let same = eqb-true k i e in rw same (none_here (ap (λ j. get_or gone j 0) (sym same) ∙ z)))
        (λ e. going.tested k l z (sym (and-true _) ∙ sym (ap (λ b. mem todo k and not b) e) ∙ sym (out k) ∙ t));
    below = λ k l z.
        at-hand k i l
        (λ e. out k ∙ ap (λ b. mem todo k and not b) (eq-eqb k i e) ∙ and-false (mem todo k))
        (λ j. out k ∙ ap (λ b. b and not (eqb k i)) (going.below k j z));
  }

  -- a trip begins here, and is cut
  module _ (last low : ℕ) (todo' : List ℕ) (long : length todo' ≡ length todo) (x : Crossing) (is : x ≡ named xs i) (here : get_or gone i 0 ≡ 0) (trip : last ≡ i → ⊥)
      (found : last ≡ last_from (named xs i) xs gone i (suc i)) (lower : low ≤ i)
      (noted : Noted gone xs x.carrier i (suc last - i) (mem todo) (mem todo') low) where
    abbrev gone' : List ℕ
    gone' = drop_trip x.carrier i (suc last - i) gone xs

    len : length gone ≡ length xs
    len = same_length plan gone going.long_gone

    is_cut : cut (left gone xs) ≡ some (left gone' xs)
    is_cut =
        by-option (last_place (named xs i).carrier (named xs i).from (drop (suc i) gone) (drop (suc i) xs))
        (λ e. absurd (trip (rw e at found)))
        (λ d e.
        let end : last ≡ suc i + d = rw e at found in
        let count : suc last - i ≡ suc (suc d) = omega arith in
        rw (is, count)
        (cut_at gone xs i d (omega (arith, going.long_gone)) len here
        (λ k l z. going.tested k (omega arith) z (going.below k l z)) e))

    pub cut-rank : rank plan gone' low < rank plan gone i
    unfolding rank
    cut-rank = rank_less (length (left gone xs)) (length (left gone' xs)) (length plan) low i (cut-shorter (left gone xs) (left gone' xs) is_cut)

    pub look-cut : Going plan gone' todo' low
    look-cut =
        let w = going.lawful in
        record {
          long_gone = trip-length x.carrier i (suc last - i) gone xs ∙ going.long_gone;
          room = omega (arith, going.room, long);
          held = omega (arith, going.held, long);
          within = omega (arith, going.room, long);
          lawful = record {
            yard = w.yard;
            start = w.start;
            apart = w.apart;
            lawful = (cut-legal w.yard w.start (left gone xs) (left gone' xs) is_cut w.lawful).0;
          };
          whole = sym (shorten-cut (left gone xs) (left gone' xs) is_cut) ∙ going.whole;
          tested = λ k l.
              freed w.yard w.start w.apart gone xs len w.lawful x.carrier i (suc last - i) (mem todo) (mem todo') low noted
              (λ j m. going.tested j (omega arith)) k (omega arith);
          below = λ k l z.
              noted.below k l
              ∙ going.below k (omega arith) (trip-fewer x.carrier (suc last - i) i gone xs len k z (omega (arith, going.long_gone)));
        }

-- at the end what is still in the plan is the shorter plan
pub looked : (plan gone todo : List ℕ) (i : ℕ) → length plan ≤ i → Going plan gone todo i → left gone (crossings plan) ≡ shorten (crossings plan)
looked plan gone todo i h g =
    let none_left = cut-ends gone (crossings plan) (same_length plan gone g.long_gone)
    (λ k l z. let in-plan : k < length plan = omega (arith, g.long_gone) in g.tested k in-plan z (g.below k (omega arith) z)) in
    sym (cuts-done (length (left gone (crossings plan))) (left gone (crossings plan)) none_left) ∙ g.whole

-- names that are not in the set are passed
pub look-on : (plan gone todo : List ℕ) (i r : ℕ) → Going plan gone todo i → Lowest (mem todo) i (64 * length todo) r → Going plan gone todo r
look-on plan gone todo i r g next = record {
  long_gone = g.long_gone;
  room = g.room;
  held = g.held;
  within = next.upto;
  lawful = g.lawful;
  whole = g.whole;
  tested = g.tested;
  below = λ k l z. by_cases (ltb k i) (λ t. g.below k (ltb-true k i t) z) (λ t. next.before k (ltb-false k i t) l);
}

pub rank_up : (plan gone : List ℕ) (i r : ℕ) → i ≤ r → rank plan gone r ≤ rank plan gone i
unfolding rank
rank_up plan gone i r h = on (length (left gone (crossings plan)) * suc (length plan)) (length plan)
  where
    on : (a l : ℕ) → a + (l - r) ≤ a + (l - i)
    on a l = omega arith

-- before the first look nothing is dropped, and a name that is not in the set begins no trip
pub look-start : (plan gone todo : List ℕ) → Lawful (crossings plan) → gone ≡ replicate (length plan) 0 → length plan ≤ 64 * length todo
    → 64 * length todo ≤ most_crossings
    → ((k : ℕ) → k < length plan → mem todo k ≡ false → NoTrip (replicate (length plan) 0) (crossings plan) k) → Going plan gone todo 0
look-start plan gone todo w fresh room held set_out =
    let whole : left gone (crossings plan) ≡ crossings plan =
    rw fresh (ap (λ n. left (replicate n 0) (crossings plan)) (sym (length-map plan unpack)) ∙ left-all (crossings plan)) in
    record {
      long_gone = ap length fresh ∙ length-replicate {A = ℕ} (length plan) 0;
      room = room;
      held = held;
      within = omega arith;
      lawful = rw whole w;
      whole = ap shorten whole;
      tested = λ k l z t. rw fresh (set_out k l t);
      below = λ k l z. absurd (omega arith);
    }
