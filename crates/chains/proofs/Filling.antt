-- The links are made from where each key was seen last: upwards from the end, downwards from the start.
use mathlib.Core.Path.{◌≡◌, sym, ◌∙◌, ap}
use mathlib.Core.List.{List, []}
use Prim.Native.Nat.{ℕ, zero, suc, ◌≤◌, ◌<◌, ◌+◌, ◌*◌, ◌-◌}
use native.Mathlib.Omega.{arith}
use lib.Dec.{eqb}
use lib.ListN.{length, get_or, set, length-set, replicate, length-replicate, get_or-replicate}
use lib.Seq.{get_or-set_same, get_or-set_other}
use borrow.Author.Tests.{eqb-true, eqb-false}
use Rattle.paper.specs.Limits.{most_bays, most_crossings}
use Rattle.paper.specs.Yard.{crossings, named}
use Rattle.paper.specs.OnePass.{Fits}
use Rattle.paper.proofs.Tests.{by_cases}
use Rattle.plans.proofs.Rest.{fits-named}
use Rattle.docket.specs.Reading.{crossing_of}
use Rattle.docket.specs.declared.Crossing.{Crossing as Read}
use Rattle.chains.specs.Links.{key_of, Passed, links_each, own, sought, goal, Met, Leads, LeadsDown, Linked, Sees, Seen, SeesBelow, SeenBelow, Ahead, Behind}
use Rattle.chains.proofs.Linking.{passed_none, passed-both}

module _ (plan : List ℕ) where
  -- ## Upwards

  -- before the first, nothing is seen
  pub seen_start : (kind n : ℕ) → most_bays ≤ n → Seen plan kind (replicate n (length plan)) (length plan)
  seen_start kind n enough key h =
      rw (get_or-replicate {A = ℕ} n key (length plan) 0 (omega arith))
      (record {
        low = omega arith;
        high = omega arith;
        met = record { passed = passed_none plan [] kind key _ _ (omega arith); meets = λ l. absurd (omega arith) };
      })

  module _ (m : ℕ) (inside : m < length plan) where
    -- one name that has another key
    other : (kind key : ℕ) → (key_of kind (named (crossings plan) m) ≡ key → ⊥) → Passed plan [] kind key m (suc m)
    other kind key n k l h e =
        let same : k ≡ m = omega arith in
        absurd (n (ap (λ j. key_of kind (named (crossings plan) j)) (sym same) ∙ e))

    pub seen_next : (kind at : ℕ) (seen : List ℕ) → at ≡ key_of kind (named (crossings plan) m) → at < length seen → Seen plan kind seen (suc m)
        → Seen plan kind (set seen at m) m
    seen_next kind at seen is l s key h =
        by_cases (eqb key at)
        (λ z.
        let same = eqb-true key at z in
        rw (same, get_or-set_same seen at m 0 l)
        (record {
          low = omega arith;
          high = omega arith;
          met = record { passed = passed_none plan [] kind at m m (omega arith); meets = λ u. sym is };
        }))
        (λ z.
        let old = s key h in
        rw (get_or-set_other seen at key m 0 (eqb-false key at z))
        (record {
          low = omega (arith, old.low);
          high = old.high;
          met = record {
            passed = passed-both plan [] kind key m (suc m) _ (other kind key (λ e. eqb-false key at z (sym e ∙ sym is))) old.met.passed;
            meets = old.met.meets;
          };
        }))

    -- the link of a crossing
    pub leads-on : (kind key r : ℕ) → key ≡ goal plan kind m → Sees plan (sought kind) key (suc m) r → Leads plan [] kind m (r - 1)
    leads-on kind key r is s =
        let up : r ≡ suc (r - 1) = omega (arith, s.low) in
        let met : Met plan [] (sought kind) (goal plan kind m) (suc m) (suc (r - 1)) = rw (← up, ← is) s.met in
        record { up = omega (arith, s.low); inside = omega (arith, s.low, s.high); met = met }

    -- its three links up
    pub ahead-next : (links : List ℕ) (a b c : ℕ) → length links ≡ length plan * links_each → Leads plan [] 0 m a → Leads plan [] 1 m b → Leads plan [] 2 m c
        → Ahead plan links (suc m) → Ahead plan (set (set (set links (m * links_each + 0) a) (m * links_each + 1) b) (m * links_each + 2) c) m
    ahead-next links a b c long la lb lc s kind j small from to =
        by_cases (eqb j m)
        (λ z. let here = eqb-true j m z in rw here (three kind small))
        (λ z.
        let n = eqb-false j m z in
        rw (
          get_or-set_other (set (set links (m * links_each + 0) a) (m * links_each + 1) b) (m * links_each + 2) (j * links_each + kind) c 0 (λ e. n (omega arith)),
          get_or-set_other (set links (m * links_each + 0) a) (m * links_each + 1) (j * links_each + kind) b 0 (λ e. n (omega arith)),
          get_or-set_other links (m * links_each + 0) (j * links_each + kind) a 0 (λ e. n (omega arith)),
        )
        (s kind j small (omega arith) to))
      where
        three : (k : ℕ) → k < 3 → Leads plan [] k m (get_or (set (set (set links (m * links_each + 0) a) (m * links_each + 1) b) (m * links_each + 2) c) (m * links_each + k) 0)
        three zero h =
            rw (
              get_or-set_other (set (set links (m * links_each + 0) a) (m * links_each + 1) b) (m * links_each + 2) (m * links_each + 0) c 0 (λ e. omega arith),
              get_or-set_other (set links (m * links_each + 0) a) (m * links_each + 1) (m * links_each + 0) b 0 (λ e. omega arith),
              get_or-set_same links (m * links_each + 0) a 0 (omega arith),
            )
            la
        three (suc zero) h =
            rw (
              get_or-set_other (set (set links (m * links_each + 0) a) (m * links_each + 1) b) (m * links_each + 2) (m * links_each + 1) c 0 (λ e. omega arith),
              get_or-set_same (set links (m * links_each + 0) a) (m * links_each + 1) b 0 (omega (arith, length-set links (m * links_each + 0) a)),
            )
            lb
        three (suc (suc zero)) h =
            rw (get_or-set_same (set (set links (m * links_each + 0) a) (m * links_each + 1) b) (m * links_each + 2) c 0
            (omega (arith, length-set links (m * links_each + 0) a, length-set (set links (m * links_each + 0) a) (m * links_each + 1) b)))
            lc
        three (suc (suc (suc k))) h = absurd (omega arith)

  pub ahead-start : (links : List ℕ) → Ahead plan links (length plan)
  ahead-start links kind j small from to = absurd (omega arith)

  -- ## Downwards

  pub below_none : (n : ℕ) → most_bays ≤ n → SeenBelow plan (replicate n 0) 0
  below_none n enough key h =
      rw (get_or-replicate {A = ℕ} n key 0 0 (omega arith))
      (record { high = omega arith; met = record { passed = passed_none plan [] 2 key 0 0 (omega arith); meets = λ u e. absurd (omega arith) } })

  module _ (m : ℕ) (inside : m < length plan) where
    pub below_more : (at : ℕ) (seen : List ℕ) → at ≡ (named (crossings plan) m).from → at < length seen → SeenBelow plan seen m
        → SeenBelow plan (set seen at (m + 1)) (m + 1)
    below_more at seen is l s key h =
        by_cases (eqb key at)
        (λ z.
        let same = eqb-true key at z in
        rw (same, get_or-set_same seen at (m + 1) 0 l)
        (record {
          high = omega arith;
          met = record {
            passed = passed_none plan [] 2 at (m + 1) (m + 1) (omega arith);
            meets = λ u e. let name : u ≡ m = omega arith in ap (λ j. (named (crossings plan) j).from) name ∙ sym is;
          };
        }))
        (λ z.
        let old = s key h in
        rw (get_or-set_other seen at key (m + 1) 0 (eqb-false key at z))
        (record {
          high = omega (arith, old.high);
          met = record {
            passed = passed-both plan [] 2 key _ m (m + 1) old.met.passed
                (λ k a b e. other m inside 2 key (λ w. eqb-false key at z (sym w ∙ sym is)) k a (omega arith) e);
            meets = old.met.meets;
          };
        }))

    pub leads-down : (kind key r : ℕ) → key ≡ goal plan kind m → SeesBelow plan key m r → LeadsDown plan [] kind m r
    leads-down kind key r is s = record { down = s.high; met = rw (← is) s.met }

    pub behind-next : (links : List ℕ) (a b : ℕ) → length links ≡ length plan * links_each → LeadsDown plan [] 3 m a → LeadsDown plan [] 4 m b
        → Behind plan links m → Behind plan (set (set links (m * links_each + 3) a) (m * links_each + 4) b) (m + 1)
    behind-next links a b long la lb s kind j from small below =
        by_cases (eqb j m)
        (λ z. let here = eqb-true j m z in rw here (two kind from small))
        (λ z.
        let n = eqb-false j m z in
        rw (
          get_or-set_other (set links (m * links_each + 3) a) (m * links_each + 4) (j * links_each + kind) b 0 (λ e. n (omega arith)),
          get_or-set_other links (m * links_each + 3) (j * links_each + kind) a 0 (λ e. n (omega arith)),
        )
        (s kind j from small (omega arith)))
      where
        two : (k : ℕ) → 3 ≤ k → k < links_each → LeadsDown plan [] k m (get_or (set (set links (m * links_each + 3) a) (m * links_each + 4) b) (m * links_each + k) 0)
        two zero h u = absurd (omega arith)
        two (suc zero) h u = absurd (omega arith)
        two (suc (suc zero)) h u = absurd (omega arith)
        two (suc (suc (suc zero))) h u =
            rw (
              get_or-set_other (set links (m * links_each + 3) a) (m * links_each + 4) (m * links_each + 3) b 0 (λ e. omega arith),
              get_or-set_same links (m * links_each + 3) a 0 (omega arith),
            )
            la
        two (suc (suc (suc (suc zero)))) h u =
            rw (get_or-set_same (set links (m * links_each + 3) a) (m * links_each + 4) b 0 (omega (arith, length-set links (m * links_each + 3) a)))
            lb
        two (suc (suc (suc (suc (suc k))))) h u = absurd (omega arith)

    -- links down do not touch links up
    pub ahead-kept : (links : List ℕ) (a b i : ℕ) → Ahead plan links i → Ahead plan (set (set links (m * links_each + 3) a) (m * links_each + 4) b) i
    ahead-kept links a b i s kind j small from to =
        rw (
          get_or-set_other (set links (m * links_each + 3) a) (m * links_each + 4) (j * links_each + kind) b 0 (λ e. omega arith),
          get_or-set_other links (m * links_each + 3) (j * links_each + kind) a 0 (λ e. omega arith),
        )
        (s kind j small from to)

  pub all-linked : (links : List ℕ) (m : ℕ) → length plan ≤ most_crossings → length links ≡ length plan * links_each → length plan ≤ m → Ahead plan links 0 → Behind plan links m → Linked plan [] links
  all-linked links m short long end up down = record {
    short = short;
    long = long;
    ahead = λ kind j h l. up kind j h (omega arith) l;
    behind = λ kind j h u l. down kind j h u (omega arith);
  }

-- ## One crossing after the other

-- the links up are made from the name m on
pub record FillingUp (plan links entering moving : List ℕ) (m : ℕ) : Type 0 where
  pub within : m ≤ length plan
  pub long : length links ≡ length plan * links_each
  pub bays : length entering ≡ most_bays
  pub carriers : length moving ≡ most_bays
  pub enters : Seen plan 0 entering m
  pub moves : Seen plan 1 moving m
  pub up : Ahead plan links m

-- the links down are made below the name m
pub record FillingDown (plan links leaving : List ℕ) (m : ℕ) : Type 0 where
  pub within : m ≤ length plan
  pub long : length links ≡ length plan * links_each
  pub bays : length leaving ≡ most_bays
  pub leaves : SeenBelow plan leaving m
  pub up : Ahead plan links 0
  pub down : Behind plan links m

pub up_start : (plan links : List ℕ) → length links ≡ length plan * links_each
    → FillingUp plan links (replicate most_bays (length plan)) (replicate most_bays (length plan)) (length plan)
up_start plan links long = record {
  within = omega arith;
  long = long;
  bays = length-replicate {A = ℕ} most_bays (length plan);
  carriers = length-replicate {A = ℕ} most_bays (length plan);
  enters = seen_start plan 0 most_bays (omega arith);
  moves = seen_start plan 1 most_bays (omega arith);
  up = ahead-start plan links;
}

pub down-start : (plan links : List ℕ) → length links ≡ length plan * links_each → Ahead plan links 0 → FillingDown plan links (replicate most_bays 0) 0
down-start plan links long up = record {
  within = omega arith;
  long = long;
  bays = length-replicate {A = ℕ} most_bays 0;
  leaves = below_none plan most_bays (omega arith);
  up = up;
  down = λ kind j h u l. absurd (omega arith);
}

-- the crossing at hand is within the tables
pub in-tables : (plan : List ℕ) (m : ℕ) (x : Read) → Fits most_bays most_bays plan → m < length plan → crossing_of x ≡ named (crossings plan) m
    → (x.carrier.0 < most_bays) × (x.from.0 < most_bays) × (x.to.0 < most_bays)
in-tables plan m x fits inside is = fits-named most_bays most_bays plan fits m inside (crossing_of x) is

pub up_next : {plan links entering moving : List ℕ} {m u : ℕ} (x : Read) → Fits most_bays most_bays plan → m ≡ suc u → crossing_of x ≡ named (crossings plan) u
    → FillingUp plan links entering moving m → FillingUp plan
    (set (set (set links (u * links_each + 0) (get_or entering x.from.0 0 - 1)) (u * links_each + 1) (get_or entering x.to.0 0 - 1)) (u * links_each + 2) (get_or moving x.carrier.0 0 - 1))
    (set entering x.to.0 u) (set moving x.carrier.0 u) u
unfolding own sought
up_next {plan} {links} {entering} {moving} {m} {u} x fits one is fill =
    let inside : u < length plan = omega (arith, fill.within) in
    let small = in-tables plan u x fits inside is in
    let enters : Seen plan 0 entering (suc u) = rw one at fill.enters in
    let moves : Seen plan 1 moving (suc u) = rw one at fill.moves in
    let up : Ahead plan links (suc u) = rw one at fill.up in
    let from_is : x.from.0 ≡ (named (crossings plan) u).from = ap (λ y. y.from) is in
    let to_is : x.to.0 ≡ (named (crossings plan) u).to = ap (λ y. y.to) is in
    let carrier-is : x.carrier.0 ≡ (named (crossings plan) u).carrier = ap (λ y. y.carrier) is in
    record {
      within = omega arith;
      long = simp length-set fill.long;
      bays = length-set entering x.to.0 u ∙ fill.bays;
      carriers = length-set moving x.carrier.0 u ∙ fill.carriers;
      enters = seen_next plan u inside 0 x.to.0 entering to_is (omega (arith, fill.bays, small.2)) enters;
      moves = seen_next plan u inside 1 x.carrier.0 moving carrier-is (omega (arith, fill.carriers, small.0)) moves;
      up = ahead-next plan u inside links _ _ _ fill.long
          (leads-on plan u inside 0 x.from.0 (get_or entering x.from.0 0) from_is (enters x.from.0 small.1))
          (leads-on plan u inside 1 x.to.0 (get_or entering x.to.0 0) to_is (enters x.to.0 small.2))
          (leads-on plan u inside 2 x.carrier.0 (get_or moving x.carrier.0 0) carrier-is (moves x.carrier.0 small.0)) up;
    }

pub down-next : {plan links leaving : List ℕ} {m : ℕ} (x : Read) → Fits most_bays most_bays plan → m < length plan → crossing_of x ≡ named (crossings plan) m
    → FillingDown plan links leaving m → FillingDown plan
    (set (set links (m * links_each + 3) (get_or leaving x.to.0 0)) (m * links_each + 4) (get_or leaving x.from.0 0)) (set leaving x.from.0 (m + 1)) (m + 1)
unfolding own
down-next {plan} {links} {leaving} {m} x fits inside is fill =
    let small = in-tables plan m x fits inside is in
    let from_is : x.from.0 ≡ (named (crossings plan) m).from = ap (λ y. y.from) is in
    let to_is : x.to.0 ≡ (named (crossings plan) m).to = ap (λ y. y.to) is in
    record {
      within = omega arith;
      long = simp length-set fill.long;
      bays = length-set leaving x.from.0 (m + 1) ∙ fill.bays;
      leaves = below_more plan m inside x.from.0 leaving from_is (omega (arith, fill.bays, small.1)) fill.leaves;
      up = ahead-kept plan m inside links _ _ 0 fill.up;
      down = behind-next plan m inside links _ _ fill.long
          (leads-down plan m inside 3 x.to.0 (get_or leaving x.to.0 0) to_is (fill.leaves x.to.0 small.2))
          (leads-down plan m inside 4 x.from.0 (get_or leaving x.from.0 0) from_is (fill.leaves x.from.0 small.1)) fill.down;
    }
