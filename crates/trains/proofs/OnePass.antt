-- One pass gives the train slots: a table holds for each carrier, and for each bay, the slot of the latest that the definition looks for.
use Rattle.std.specs.Prelude.{if◌then◌else◌}
use mathlib.Core.Path.{◌≡◌, refl, sym, ap}
use mathlib.Core.List.{List, [], ◌∷◌}
use Prim.Native.Nat.{ℕ, suc, max, ◌<◌}
use lib.Dec.{eqb}
use lib.ListN.{length, set, replicate}
use borrow.Author.Tests.{eqb-true, eqb-false, eq-eqb, ne_eqb}
use Rattle.paper.specs.Yard.{Crossing}
use Rattle.paper.specs.OnePass.{put}
use Rattle.paper.proofs.Tests.{by_cases}
use Rattle.paper.proofs.Slotting.{at, put-set, at-zeros}
use Rattle.trains.specs.Slots.{Timed, latest, is_of, leaves, train_slot, train_slots_after, train_slots}
use Rattle.trains.specs.OnePass.{train_pass}

-- the tables give the latest of every carrier and of every bay
record Tells (met : List Timed) (tc tl : ℕ → ℕ) : Type 0 where
  of_carriers : (c : ℕ) → latest (is_of c) met ≡ tc c
  of_left : (b : ℕ) → latest (leaves b) met ≡ tl b

-- one entry put is one latest more
put-latest : (t : ℕ → ℕ) (i s j rest : ℕ) → rest ≡ t j → (if eqb i j then s else rest) ≡ put t i s j
unfolding put
put-latest t i s j rest h =
    by_cases (eqb i j)
    (λ e. rw (e, eq-eqb j i (sym (eqb-true i j e))))
    (λ e. rw (e, ne_eqb j i (λ q. eqb-false i j e (sym q))) h)

tells-on : (met : List Timed) (tc tl : ℕ → ℕ) (x : Crossing) (s : ℕ) → Tells met tc tl → Tells ((x, s) ∷ met) (put tc x.carrier s) (put tl x.from s)
unfolding latest
tells-on met tc tl x s t = record {
  of_carriers = λ c. put-latest tc x.carrier s c (latest (is_of c) met) (t.of_carriers c);
  of_left = λ b. put-latest tl x.from s b (latest (leaves b) met) (t.of_left b);
}

pass_same : (met : List Timed) (tc tl : ℕ → ℕ) (xs : List Crossing) → Tells met tc tl → train_slots_after met xs ≡ train_pass tc tl xs
unfolding train_slots_after train_pass train_slot
pass_same met tc tl [] t = refl
pass_same met tc tl (x ∷ xs) t =
    let s = max (suc (tc x.carrier)) (tl x.to) in
    rw (t.of_carriers x.carrier, t.of_left x.to)
    (ap (λ l. s ∷ l) (pass_same ((x, s) ∷ met) (put tc x.carrier s) (put tl x.from s) xs (tells-on met tc tl x s t)))

-- One pass gives the train slots, for any list of crossings.
pub train-pass : (xs : List Crossing) → train_slots xs ≡ train_pass (λ c. 0) (λ b. 0) xs
unfolding train_slots latest
train-pass xs = pass_same [] (λ c. 0) (λ b. 0) xs (record { of_carriers = λ c. refl; of_left = λ b. refl })

-- The tables as lists, as code holds them: the start of the loop, and a step of it.
pub train-start : (k n : ℕ) (xs : List Crossing) → train_slots xs ≡ train_pass (at (replicate k 0)) (at (replicate n 0)) xs
train-start k n xs = rw (at-zeros k, at-zeros n) (train-pass xs)

pub train-step : (cs ls : List ℕ) (x : Crossing) (xs : List Crossing) → x.carrier < length cs → x.from < length ls
    → (s : ℕ) → s ≡ max (suc (at cs x.carrier)) (at ls x.to)
    → train_pass (at cs) (at ls) (x ∷ xs) ≡ s ∷ train_pass (at (set cs x.carrier s)) (at (set ls x.from s)) xs
unfolding train_pass
train-step cs ls x xs hc hf s e = rw (← e) (rw (put-set cs x.carrier s hc, put-set ls x.from s hf))
