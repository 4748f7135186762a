-- From the outcome of the procedure to what is handed out.
-- Assumes nothing.
use Rattle.std.proofs.Common.{Err, Ok}
use mathlib.Core.Path.{◌≡◌, refl, sym, ◌∙◌, ap}
use mathlib.Core.List.{List, ◌++◌, map}
use Prim.Native.Nat.{ℕ, ◌+◌, ◌≤◌}
use native.Mathlib.Omega.{arith}
use lib.ListN.{length, take, drop, length-map}
use lib.Seq.{take_all, length-take-le}
use Rattle.paper.specs.Procedure.{Made, Outcome, planned, stuck}
use Rattle.paper.specs.Yard.{pack, most_crossings}
use Rattle.paper.specs.Answers.{parked_of, beside, written}
use Rattle.paper.proofs.Planning.{TooLong, within-stuck, within-fits, within-long}
use Rattle.paper.proofs.Tests.{never}
use Rattle.docket.specs.declared.Carrier.{Carrier as Named}
use Rattle.docket.specs.declared.Refusal.TheVariants.{Room, Stopped}
use Rattle.play.specs.FromBelow.{Staged}
use Rattle.play.specs.Playing.{Plays}
use Rattle.acting.specs.declared.Tally.{Tally}
use Rattle.outcome.specs.Handing.{told, PlanIn, Due, Hands, HandsIfKept}
use Rattle.outcome.specs.declared.Handed.TheVariants.{Done, Longer}
use Rattle.outcome.specs.Counted.{Counted}

-- ## The crossings kept

pub plan-in : {o : Outcome} {kept kept' : List ℕ} {m : Tally} {z : Staged} → Plays o kept kept' z → z ≡ Ok m → PlanIn o kept' m
plan-in {kept' = kept'} {m} p e =
    let w = p.plans m e in
    let size : 0 + length (map pack w.0.moves) ≡ m.crossings = omega (arith, length-map w.0.moves pack, w.3) in
    record {
      made = w.0;
      outcome = w.1;
      counted = w.3;
      parks = λ h. omega (arith, h, w.4, w.5);
      stored = λ h. ap (λ (k : ℕ). take k kept') (sym size) ∙ w.2.front (omega (arith, h, size, w.2.long));
    }

-- copied from where it was kept
pub copied-out : {o : Outcome} {kept out' : List ℕ} {m : Tally} (out : List ℕ) → PlanIn o kept m → m.crossings ≤ length kept
    → out' ≡ take m.crossings kept ++ drop (length (take m.crossings kept)) out
    → (made : Made) → o ≡ planned made → out' ≡ map pack made.moves ++ drop (length made.moves) out
copied-out out k h e made i =
    let kept : k.made ≡ made = let a = k.outcome in cc in
    let front = k.stored h ∙ ap (λ (m : Made). map pack m.moves) kept in
    rw (front, length-map) at e

-- ## 7, 8, or the plan

pub hands-stopped : {o : Outcome} {lent : List ℕ} (c : Named) → o ≡ stuck c.0 → Hands o lent (Err (Stopped c)) lent
unfolding written beside
hands-stopped {lent = lent} c e =
    let w = within-stuck (length lent) c.0 in
    rw e (record { answers = sym (ap told w); parks = rw w refl; leaves = rw w refl })

pub hands-long : {o : Outcome} {kept lent : List ℕ} {m : Tally} → PlanIn o kept m → TooLong (length lent) m.crossings → Hands o lent (Err (Room m.crossings)) lent
unfolding written beside
hands-long {lent = lent} k h =
    let w = within-long (length lent) k.made (rw k.counted at h) in
    rw (k.outcome, k.counted) (record { answers = sym (ap told w); parks = rw w refl; leaves = rw w refl })

pub hands-plan : {o : Outcome} {kept lent lent' : List ℕ} {m : Tally} → PlanIn o kept m → m.crossings ≤ length lent → m.crossings ≤ most_crossings
    → ((made : Made) → o ≡ planned made → lent' ≡ map pack made.moves ++ drop (length made.moves) lent) → Hands o lent (Ok (m.crossings, m.parked)) lent'
unfolding written beside parked_of
hands-plan {lent = lent} k a b f =
    let w = within-fits (length lent) k.made (rw k.counted at a) (rw k.counted at b) in
    let e = f k.made k.outcome in
    let counts = k.parks b in
    rw (k.outcome, k.counted, counts) (record { answers = sym (ap told w); parks = rw w refl; leaves = rw w e })

pub done-if-kept : {o : Outcome} {lent lent' : List ℕ} {answer : Counted} → Hands o lent answer lent' → HandsIfKept o lent (Done answer) lent'
done-if-kept {answer = answer} k = record {
  done = λ a e. let same : answer ≡ a = cc in rw same at k;
  longer = λ m parked e. never (cc);
}

pub longer-unless-kept : {o : Outcome} {lent : List ℕ} {m parked : ℕ} → Due o lent m parked → HandsIfKept o lent (Longer m parked) lent
longer-unless-kept {m = m} {parked} d = record {
  done = λ a e. never (cc);
  longer = λ k p e.
      let long : m ≡ k = cc in
      let counts : parked ≡ p = cc in
      (refl, rw (long, counts) at d);
}

-- ## The plan that is played again

pub due-of : {o : Outcome} {kept lent : List ℕ} {m : Tally} → PlanIn o kept m → m.crossings ≤ length lent → m.crossings ≤ most_crossings
    → Due o lent m.crossings m.parked
due-of k a b = record { made = k.made; outcome = k.outcome; counted = k.counted; parks = k.parks b; fits = a; few = b }

-- the places that were lent for it are all that it has, so it fills them
pub hands-again : {o : Outcome} {lent stored lent' : List ℕ} {m parked : ℕ} (z : Staged) → Plays o (take m lent) stored z → Due o lent m parked
    → lent' ≡ stored ++ drop m lent → Hands o lent (Ok (m, parked)) lent'
hands-again (Err c) p d e = never (let stops = p.stops c refl in let plans = d.outcome in cc)
hands-again {lent = lent} {stored} {lent'} {m} {parked} (Ok t) p d e =
    let k = plan-in p refl in
    let same : k.made ≡ d.made = let a = k.outcome in let b = d.outcome in cc in
    let long : t.crossings ≡ m = k.counted ∙ ap (λ (x : Made). length x.moves) same ∙ sym d.counted in
    let counts : t.parked ≡ parked = k.parks (omega (arith, long, d.few)) ∙ ap (λ (x : Made). x.parked) same ∙ sym d.parks in
    let size : length stored ≡ m = (p.plans t refl).2.long ∙ length-take-le m lent d.fits in
    let all : take t.crossings stored ≡ stored = take_all t.crossings stored (omega (arith, long, size)) in
    let filled : lent' ≡ take t.crossings stored ++ drop (length (take t.crossings stored)) lent = rw (all, size) e in
    let hands = hands-plan k (omega (arith, long, d.fits)) (omega (arith, long, d.few)) (copied-out lent k (omega (arith, long, size)) filled) in
    rw (long, counts) at hands

-- and the list that it is played into is as it was lent
pub hands-longer : {o : Outcome} {lent same lent' : List ℕ} {m parked : ℕ} {answer : Counted} → (same ≡ lent) × Due o lent m parked
    → (Due o same m parked → Hands o same answer lent') → Hands o lent answer lent'
hands-longer longer again = rw longer.0 at (again (rw longer.0 longer.1))
