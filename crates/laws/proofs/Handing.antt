-- Every plan that the planner hands out passes the check, and what passes the check names carriers and bays of the yard.
use mathlib.Core.Path.{◌≡◌, refl, ap₂}
use mathlib.Core.Bool.{true}
use mathlib.Core.List.{List, [], ◌∷◌, map}
use mathlib.Core.Option.{none}
use Prim.Native.Nat.{ℕ, zero, suc, ◌<◌, ◌≤◌}
use native.Mathlib.Omega.{arith}
use lib.Dec.{eqb}
use lib.ListN.{length, get_or, length-map, length-set}
use borrow.Author.Tests.{eqb-true}
use Rattle.paper.specs.Limits.{most_bays}
use Rattle.paper.specs.Yard.{Carrier, Yard, Placement, Crossing, bay_of, move, legal_plan, most_crossings, pack, unpack, crossings, named}
use Rattle.paper.specs.Order.{Order}
use Rattle.paper.specs.Docket.{yard_of}
use Rattle.paper.specs.Answers.{accepted, first_six, plan, check}
use Rattle.paper.specs.OnePass.{Fits}
use Rattle.paper.proofs.Tests.{by_cases}
use Rattle.paper.proofs.Members.{count-high}
use Rattle.paper.proofs.Playing.{legal-facts, plan-head, plan-tail, move-self, move-other, Sound}
use Rattle.paper.proofs.Admitted.{clean_of, sound-of, good_of, of-clean}
use Rattle.paper.proofs.Planning.{accepted-right, accepted-exactly}
use Rattle.paper.proofs.Checking.{passed-check, check-passed}
use Rattle.paper.proofs.Packing.{unpack-pack, named-is}

module _ (Y : Yard) (sound : Sound Y) (few : Y.bays ≤ most_bays) where
  -- a legal plan's numbers read as its crossings
  reads-back : (p : Placement) (xs : List Crossing) → ((c : Carrier) → c < length p → bay_of p c < Y.bays) → legal_plan Y p xs ≡ true
      → crossings (map pack xs) ≡ xs
  reads-back p [] inside h = refl
  reads-back p (x ∷ xs) inside h =
      let l = legal-facts Y p x (plan-head Y p x xs h) in
      let to_in : x.to < Y.bays = let z = count-high 0 Y.bays x.to (sound.inside x.from x.to l.rail) in omega arith in
      let from_in : x.from < Y.bays = rw l.stands at (inside x.carrier l.there) in
      let ih = reads-back (move p x) xs
      (λ c k. by_cases (eqb c x.carrier)
      (λ e. rw (eqb-true c x.carrier e, move-self Y p x l) to_in)
      (λ e. rw (move-other Y p x l c e) (inside c (rw length-set at k))))
      (plan-tail Y p x xs h) in
      ap₂ (λ y ys. y ∷ ys) (unpack-pack x (omega arith) (omega arith)) ih

-- 1 to 6 with the plan lent, where they pass without it and it is short
lent-too : (o : Order) (m : ℕ) → first_six o 0 ≡ none → m ≤ most_crossings → first_six o m ≡ none
lent-too o m h k =
    let c = clean_of o 0 h in
    let z = c.sizes in
    of-clean o m (record {
      sizes = record {
        enough-bays = z.enough-bays;
        few_bays = z.few_bays;
        few-rails = z.few-rails;
        even-ends = z.even-ends;
        same_length = z.same_length;
        short-plan = k;
      };
      rails = c.rails;
      reached = c.reached;
      uncrowded = c.uncrowded;
      starts = c.starts;
      goals = c.goals;
    })

-- Every plan handed out passes the check, and its numbers read as its crossings.
pub handed-passes : (o : Order) (lent : ℕ) (xs : List Crossing) → plan o lent ≡ accepted xs
    → (check o (map pack xs) ≡ none) × (crossings (map pack xs) ≡ xs)
handed-passes o lent xs h =
    let a = (accepted-exactly o lent xs).0 h in
    let right = accepted-right o lent xs h in
    let c = clean_of o 0 a.0 in
    let good = good_of o o.starts c.starts in
    let back = reads-back (yard_of o) (sound-of o c.rails) c.sizes.few_bays o.starts xs
    (λ c k. let z = count-high 0 o.bays (bay_of o.starts c) (good.inside c k) in omega arith) right.0 in (
      passed-check o (map pack xs) (record {
        sound = lent-too o (length (map pack xs)) a.0 (rw length-map a.3);
        lawful = rw back right.0;
        home = rw back right.1;
      }),
      back,
    )

module _ (Y : Yard) (sound : Sound Y) where
  -- a legal plan's crossings name carriers of the placement and bays of the yard
  plan-fits : (p : Placement) (xs : List Crossing) → ((c : Carrier) → c < length p → bay_of p c < Y.bays) → legal_plan Y p xs ≡ true
      → (i : ℕ) → i < length xs → ((named xs i).carrier < length p) × ((named xs i).from < Y.bays) × ((named xs i).to < Y.bays)
  plan-fits p [] inside h i k = absurd (omega arith)
  plan-fits p (x ∷ xs) inside h zero k =
      let l = legal-facts Y p x (plan-head Y p x xs h) in
      (l.there, rw l.stands at (inside x.carrier l.there), (let z = count-high 0 Y.bays x.to (sound.inside x.from x.to l.rail) in omega arith))
  plan-fits p (x ∷ xs) inside h (suc i) k =
      let l = legal-facts Y p x (plan-head Y p x xs h) in
      let to_in : x.to < Y.bays = let z = count-high 0 Y.bays x.to (sound.inside x.from x.to l.rail) in omega arith in
      rw length-set at
      (plan-fits (move p x) xs
      (λ c q. by_cases (eqb c x.carrier)
      (λ e. rw (eqb-true c x.carrier e, move-self Y p x l) to_in)
      (λ e. rw (move-other Y p x l c e) (inside c (rw length-set at q))))
      (plan-tail Y p x xs h) i (omega arith))

-- What passes the check names carriers and bays of the largest yard: what the passes over a checked plan ask.
pub check-fits : (o : Order) (plan : List ℕ) → check o plan ≡ none → Fits most_bays most_bays plan
check-fits o plan h i k =
    let p = check-passed o plan h in
    let c = clean_of o (length plan) p.sound in
    let good = good_of o o.starts c.starts in
    let few = c.sizes.few_bays in
    let small = c.uncrowded in
    let f = plan-fits (yard_of o) (sound-of o c.rails) o.starts (crossings plan)
    (λ b q. let z = count-high 0 o.bays (bay_of o.starts b) (good.inside b q) in omega arith) p.lawful i (rw length-map k) in
    let same : named (crossings plan) i ≡ unpack (get_or plan i 0) = named-is plan i in
    let f₀ = rw same at f.0 in
    let f₁ = rw same at f.1 in
    let f₂ = rw same at f.2 in
    (omega arith, omega arith, omega arith)
