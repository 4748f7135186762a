-- Links stay right while crossings are dropped, and while a link is put right up to what a search by links found.
use denote.Enum.Declared.{tag_of}
use mathlib.Core.Path.{◌≡◌, refl, sym, ◌∙◌, ap}
use mathlib.Core.List.{List, []}
use Prim.Native.Nat.{ℕ, suc, ◌≤◌, ◌<◌, ◌+◌, ◌*◌, ◌-◌}
use native.Mathlib.Omega.{arith}
use lib.Dec.{eqb, ltb}
use lib.ListN.{length, get_or, set, length-set}
use lib.Seq.{get_or-set_same, get_or-set_other}
use borrow.Author.Tests.{eqb-true, eqb-false, ltb-true, ltb-false}
use Rattle.paper.specs.Yard.{crossings, named}
use Rattle.paper.proofs.Tests.{by_cases}
use Rattle.chains.specs.contracts.Link.{the_type}
use Rattle.chains.specs.declared.Link.{Link}
use Rattle.chains.specs.declared.Link.TheVariants.{EntersFrom, EntersTo, Own, LeavesTo, LeavesFrom}
use Rattle.chains.specs.Links.{place_of, key_of, Passed, links_each, own, sought, goal, Met, MetBelow, Leads, LeadsDown, Linked}

-- a link's number is its place
pub tag_place : (l : Link) → tag_of the_type l ≡ place_of l
tag_place EntersFrom = refl
tag_place EntersTo = refl
tag_place Own = refl
tag_place LeavesTo = refl
tag_place LeavesFrom = refl

-- ## What is passed

module _ (plan gone : List ℕ) (kind key : ℕ) where
  pub passed_none : (i j : ℕ) → j ≤ i → Passed plan gone kind key i j
  passed_none i j h k l m = absurd (omega arith)

  pub passed-both : (i m j : ℕ) → Passed plan gone kind key i m → Passed plan gone kind key m j → Passed plan gone kind key i j
  passed-both i m j p q k l h = by_cases (ltb k m) (λ z. p k l (ltb-true k m z)) (λ z. q k (ltb-false k m z) h)

  -- one name, which is dropped
  pub passed-gone : (m : ℕ) → get_or gone m 0 ≡ 1 → Passed plan gone kind key m (suc m)
  passed-gone m z k l h e = let same : k ≡ m = omega arith in ap (λ j. get_or gone j 0) same ∙ z

-- ## What is found by links

-- at first nothing is passed
pub met_start : (plan gone : List ℕ) (kind key i : ℕ) → (i < length plan → key_of kind (named (crossings plan) i) ≡ key) → Met plan gone kind key i i
met_start plan gone kind key i h = record { passed = passed_none plan gone kind key i i (omega arith); meets = h }

pub below-start : (plan gone : List ℕ) (key i : ℕ) → ((u : ℕ) → i ≡ suc u → (named (crossings plan) u).from ≡ key) → MetBelow plan gone key i i
below-start plan gone key i h = record { passed = passed_none plan gone 2 key i i (omega arith); meets = h }

module _ (plan gone links : List ℕ) (linked : Linked plan gone links) where
  -- a name that is dropped, and those to which its link leads
  pub met_next : (kind key i m : ℕ) → kind < 3 → own kind ≡ sought kind → m < length plan → get_or gone m 0 ≡ 1 → Met plan gone (sought kind) key i m
      → Met plan gone (sought kind) key i (suc (get_or links (m * links_each + kind) 0))
  met_next kind key i m small same l z p =
      let lead = linked.ahead kind m small l in
      let here : goal plan kind m ≡ key = ap (λ k. key_of k (named (crossings plan) m)) same ∙ p.meets l in
      let next : Met plan gone (sought kind) key (suc m) (suc (get_or links (m * links_each + kind) 0)) = rw here at lead.met in
      record {
        passed = passed-both plan gone (sought kind) key i m _ p.passed
            (passed-both plan gone (sought kind) key m (suc m) _ (passed-gone plan gone (sought kind) key m z) next.passed);
        meets = next.meets;
      }

  -- the same downwards
  pub below_next : (key i m u : ℕ) → m ≡ suc u → u < length plan → get_or gone u 0 ≡ 1 → MetBelow plan gone key i m
      → MetBelow plan gone key i (get_or links (u * links_each + 4) 0)
  unfolding own
  below_next key i m u at l z p =
      let lead = linked.behind 4 u (omega arith) (omega arith) l in
      let here : (named (crossings plan) u).from ≡ key = p.meets u at in
      let next : MetBelow plan gone key u (get_or links (u * links_each + 4) 0) = rw here at lead.met in
      let one : Passed plan gone 2 key u m = λ k a b. passed-gone plan gone 2 key u z k a (omega arith) in
      record {
        passed = passed-both plan gone 2 key _ u i next.passed (passed-both plan gone 2 key u m i one p.passed);
        meets = next.meets;
      }

-- what a search finds that goes on from where a link leads
module _ (plan gone : List ℕ) (m v first r : ℕ) where
  pub met-on : (kind again : ℕ) → first ≡ suc v → sought again ≡ sought kind → Leads plan gone kind m v
      → ((key : ℕ) → (first < length plan → key_of (sought again) (named (crossings plan) first) ≡ key) → Met plan gone (sought again) key first r)
      → Met plan gone (sought kind) (goal plan kind m) (suc m) r
  met-on kind again is same lead found =
      let key = goal plan kind m in
      let there : first < length plan → key_of (sought again) (named (crossings plan) first) ≡ key =
      λ l. ap (λ k. key_of k (named (crossings plan) first)) same ∙ ap (λ j. key_of (sought kind) (named (crossings plan) j)) is ∙ lead.met.meets (omega arith) in
      let on = found key there in
      let over : Passed plan gone (sought kind) key (suc v) r =
      λ k a b e. on.passed k (omega arith) b (ap (λ j. key_of j (named (crossings plan) k)) same ∙ e) in
      record {
        passed = passed-both plan gone (sought kind) key (suc m) (suc v) r lead.met.passed over;
        meets = λ l. ap (λ j. key_of j (named (crossings plan) r)) (sym same) ∙ on.meets l;
      }

  pub down-on : first ≡ v → LeadsDown plan gone 3 m v
      → ((key : ℕ) → ((u : ℕ) → first ≡ suc u → (named (crossings plan) u).from ≡ key) → MetBelow plan gone key first r)
      → MetBelow plan gone (named (crossings plan) m).to m r
  unfolding own
  down-on is lead found =
      let key = (named (crossings plan) m).to in
      let on = found key (λ u e. lead.met.meets u (sym is ∙ e)) in
      let low : Passed plan gone 2 key r v = λ k a b. on.passed k a (omega arith) in
      record { passed = passed-both plan gone 2 key r v m low lead.met.passed; meets = on.meets }

-- what is found is what the link leads to
pub leads-found : (plan gone : List ℕ) (kind m r v : ℕ) → v ≡ r - 1 → m < r → r ≤ length plan → Met plan gone (sought kind) (goal plan kind m) (suc m) r
    → Leads plan gone kind m v
leads-found plan gone kind m r v is l h met =
    let up : r ≡ suc v = omega arith in
    record { up = omega arith; inside = omega arith; met = rw up at met }

pub down-found : (plan gone : List ℕ) (m r v : ℕ) → v ≡ r → r ≤ m → MetBelow plan gone (named (crossings plan) m).to m r → LeadsDown plan gone 3 m v
unfolding own
down-found plan gone m r v is h met = record { down = omega arith; met = rw (sym is) at met }

-- ## What keeps the links right

pub linked-drop : (plan gone links : List ℕ) → Linked plan gone links → (gone' : List ℕ)
    → ((k : ℕ) → get_or gone k 0 ≡ 1 → get_or gone' k 0 ≡ 1) → Linked plan gone' links
linked-drop plan gone links linked gone' more = record {
  short = linked.short;
  long = linked.long;
  ahead = λ kind m h l.
      let lead = linked.ahead kind m h l in
      record {
        up = lead.up;
        inside = lead.inside;
        met = record { passed = λ k a b e. more k (lead.met.passed k a b e); meets = lead.met.meets };
      };
  behind = λ kind m h u l.
      let lead = linked.behind kind m h u l in
      record { down = lead.down; met = record { passed = λ k a b e. more k (lead.met.passed k a b e); meets = lead.met.meets } };
}

-- of a plan of which nothing is dropped they are right whatever is dropped
pub linked-fresh : (plan links : List ℕ) → Linked plan [] links → (gone : List ℕ) → Linked plan gone links
linked-fresh plan links linked gone = linked-drop plan [] links linked gone (λ k e. absurd (omega (arith, none k e)))
  where
    none : (k : ℕ) → ◌≡◌ {A = ℕ} (get_or [] k 0) 1 → ◌≡◌ {A = ℕ} 0 1
    none k e = e

-- no place is two crossings' or two kinds'
same_place : (m k m₂ k₂ : ℕ) → k < links_each → k₂ < links_each → m * links_each + k ≡ m₂ * links_each + k₂ → (m ≡ m₂) × (k ≡ k₂)
same_place m k m₂ k₂ u v e = let same : m ≡ m₂ = omega arith in (same, omega arith)

module _ (plan gone links : List ℕ) (linked : Linked plan gone links) (i kind v : ℕ) (inside : i < length plan) where
  pub linked-ahead : kind < 3 → Leads plan gone kind i v → Linked plan gone (set links (i * links_each + kind) v)
  linked-ahead small lead = record {
    short = linked.short;
    long = length-set links (i * links_each + kind) v ∙ linked.long;
    ahead = λ k m h l.
        by_cases (eqb (m * links_each + k) (i * links_each + kind))
        (λ z.
        let one = same_place m k i kind (omega arith) (omega arith) (eqb-true _ _ z) in
        let name = one.0 in
        let slot = one.1 in
        rw (eqb-true (m * links_each + k) (i * links_each + kind) z, get_or-set_same links (i * links_each + kind) v 0 (omega (arith, linked.long)), name, slot) lead)
        (λ z. rw (get_or-set_other links (i * links_each + kind) (m * links_each + k) v 0 (eqb-false _ _ z)) (linked.ahead k m h l));
    behind = λ k m h u l.
        rw (get_or-set_other links (i * links_each + kind) (m * links_each + k) v 0
        (λ e. let one = same_place m k i kind u (omega arith) e in omega (arith, one.1)))
        (linked.behind k m h u l);
  }

  pub linked-behind : 3 ≤ kind → kind < links_each → LeadsDown plan gone kind i v → Linked plan gone (set links (i * links_each + kind) v)
  linked-behind from small lead = record {
    short = linked.short;
    long = length-set links (i * links_each + kind) v ∙ linked.long;
    ahead = λ k m h l.
        rw (get_or-set_other links (i * links_each + kind) (m * links_each + k) v 0
        (λ e. let one = same_place m k i kind (omega arith) small e in omega (arith, one.1)))
        (linked.ahead k m h l);
    behind = λ k m h u l.
        by_cases (eqb (m * links_each + k) (i * links_each + kind))
        (λ z.
        let one = same_place m k i kind u small (eqb-true _ _ z) in
        let name = one.0 in
        let slot = one.1 in
        rw (eqb-true (m * links_each + k) (i * links_each + kind) z, get_or-set_same links (i * links_each + kind) v 0 (omega (arith, linked.long)), name, slot) lead)
        (λ z. rw (get_or-set_other links (i * links_each + kind) (m * links_each + k) v 0 (eqb-false _ _ z)) (linked.behind k m h u l));
  }
