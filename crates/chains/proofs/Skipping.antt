-- Names that are dropped are passed one after the other: the link of each leads on, over names that are passed with it.
-- Assumes nothing.
use mathlib.Core.Path.{◌≡◌, sym}
use mathlib.Core.List.{List}
use Prim.Native.Nat.{ℕ, suc, ◌≤◌, ◌<◌, ◌+◌, ◌*◌, ◌-◌}
use native.Mathlib.Omega.{arith}
use lib.ListN.{length, get_or}
use Rattle.chains.specs.Links.{links_each}
use Rattle.chains.specs.Asking.{SkipAsks, SkipSays, SkipBackAsks, SkipBackSays}
use Rattle.chains.proofs.Linking.{met_next, below_next}

-- ## Up

module _ {plan gone links : List ℕ} {start kind : ℕ} (asks : SkipAsks plan gone links start kind) {m : ℕ} (inside : m < length plan) where
  pub link-there : m * links_each + kind < length links
  link-there = omega (arith, inside, asks.linked.long, asks.kind_up)

  module _ {v : ℕ} (is : v ≡ get_or links (m * links_each + kind) 0) where
    pub leads-up : (m ≤ v) × (v < length plan)
    leads-up = let lead = asks.linked.ahead kind m asks.kind_up inside in (omega (arith, is, lead.up), omega (arith, is, lead.inside))

    pub skip-more : get_or gone m 0 ≡ 1 → SkipSays plan gone start kind m → SkipSays plan gone start kind (v + 1)
    skip-more dropped s =
        let next : suc (get_or links (m * links_each + kind) 0) ≡ v + 1 = omega (arith, is) in
        record {
          from = omega (arith, s.from, leads-up.0);
          upto = omega (arith, leads-up.1);
          met = λ key h. rw next at (met_next plan gone links asks.linked kind key start m asks.kind_up asks.steady inside dropped (s.met key h));
        }

-- ## Down

module _ {plan gone links : List ℕ} {start m : ℕ} (asks : SkipBackAsks plan gone links start) (s : SkipBackSays plan gone start m) (more : 0 < m) where
  pub below-there : (m - 1 < length plan) × ((m - 1) * links_each + 4 < length links)
  below-there = (omega (arith, s.upto, asks.upto, more), omega (arith, s.upto, asks.upto, more, asks.linked.long))

  module _ {v : ℕ} (is : v ≡ get_or links ((m - 1) * links_each + 4) 0) where
    pub leads-down : v < m
    leads-down = omega (arith, is, more, (asks.linked.behind 4 (m - 1) (omega arith) (omega arith) below-there.0).down)

    pub skip-less : get_or gone (m - 1) 0 ≡ 1 → SkipBackSays plan gone start v
    skip-less dropped = record {
      upto = omega (arith, s.upto, leads-down);
      met = λ key h. rw (sym is) at (below_next plan gone links asks.linked key start m (m - 1) (omega (arith, more)) below-there.0 dropped (s.met key h));
    }
