-- A table that goes on above its rails shows the same yard: only the rows of its bays are asked.
-- Assumes nothing.
use mathlib.Core.Path.{◌≡◌, ◌∙◌, sym}
use mathlib.Core.List.{List, ◌++◌}
use Prim.Native.Nat.{ℕ, ◌+◌, ◌*◌, ◌/◌, ◌≤◌, ◌<◌}
use native.Mathlib.Decide.{dec_lt}
use native.Mathlib.Nat.{mul-le-mul_right}
use native.Mathlib.Omega.{arith}
use lib.ListN.{length, take, replicate, length-replicate, get_or-append}
use lib.Seq.{length-take-le}
use Rattle.words.specs.Sets.{mem_row, words, span}
use Rattle.words.proofs.Sets.{mem-row}
use Rattle.levels.specs.Levels.{Levelled}
use Rattle.levels.specs.Raising.{Rails}
use Rattle.levels.proofs.Levels.{row-take, only-rails}
use Rattle.acting.specs.Acting.{Tabled}
use Rattle.play.specs.Playing.{Admitted}

-- the rows of the n bays are as in the other table
abbrev pub SameRails : ℕ → List ℕ → List ℕ → Type 0
SameRails n table table' = (x b : ℕ) → x < n → b < span → mem_row table' x b ≡ mem_row table x b

abbrev pub tabled-same : {n : ℕ} {table table' : List ℕ} → SameRails n table table' → Tabled n table → Tabled n table'
tabled-same same t = record {
  yard = t.yard;
  joins = record {
    bays = t.joins.bays;
    same = λ a b h k. same a b h k ∙ t.joins.same a b h k;
    inside = t.joins.inside;
  };
}

pub admitted-same : {n : ℕ} {table table' s g : List ℕ} → SameRails n table table' → Admitted n table s g → Admitted n table' s g
admitted-same same a = record {
  most = a.most;
  few = a.few;
  apart = a.apart;
  inside = a.inside;
  goals = a.goals;
  loopless = record { none = λ x h. same x x h (omega (arith, a.most)) ∙ a.loopless.none x h };
  reaching = record { tabled = tabled-same same a.reaching.tabled; reached = a.reaching.reached };
}

pub rails-of : {n : ℕ} {table : List ℕ} → Tabled n table → Rails n table
rails-of t x b hx hb e = (t.joins.inside x b (sym (t.joins.same x b hx hb) ∙ e)).1

-- cut off behind whole levels, the table keeps its rails
pub same_taken : (n k : ℕ) (table : List ℕ) → n * words ≤ k → SameRails n table (take k table)
same_taken n k table h x b hx hb = row-take table k x b (omega arith) hb

-- and so it does with other words behind it
pub same-appended : (n : ℕ) (table more : List ℕ) → n * words ≤ length table → SameRails n table (table ++ more)
same-appended n table more h x b hx hb =
    let i : x * words + b / 64 < length table = omega arith in
    mem-row (table ++ more) x b ∙ rw (get_or-append table more 0 (x * words + b / 64) i) (sym (mem-row table x b))

-- so a copy keeps them that was raised and cut off behind its levels
pub same-raised : (n r : ℕ) (table more wide wide' : List ℕ) → n * words ≤ length table → wide ≡ table ++ more → SameRails n wide wide' → 1 ≤ r
    → SameRails n table (take (r * n * words) wide')
same-raised n r table more wide wide' h e rails some x b hx hb =
    let whole : 1 * n ≤ r * n = mul-le-mul_right n some in
    same_taken n (r * n * words) wide' (omega arith) x b hx hb
    ∙ rails x b hx hb
    ∙ rw e (same-appended n table more h x b hx hb)

pub room-raised : (n r : ℕ) (wide : List ℕ) → 1 ≤ r → r * n * words ≤ length wide → n * words ≤ length (take (r * n * words) wide)
room-raised n r wide some h =
    let whole : 1 * n ≤ r * n = mul-le-mul_right n some in
    let size : length (take (r * n * words) wide) ≡ r * n * words = length-take-le (r * n * words) wide h in
    omega arith

-- the rails alone have no levels above them
pub rails-levelled : (n : ℕ) (table : List ℕ) → n * words ≤ length table → Levelled n (take (n * words) table)
rails-levelled n table h =
    let size : length (take (n * words) table) ≡ n * words = length-take-le (n * words) table h in
    elim (dec_lt 0 n) [
      | yes p ↦ only-rails n (take (n * words) table) p (omega arith)
      | no p ↦ record { rises = λ j x b l hx hb. absurd (omega arith) }
    ]

-- A new array of so many tables' size has room for one, by its length: a search would go through all its places, and there are more the higher the limits.
pub new-has-room : (tables : ℕ) → 1 ≤ tables → span * words ≤ length {A = ℕ} (replicate (tables * (span * words)) 0)
new-has-room tables h = rw (length-replicate {A = ℕ} (tables * (span * words)) 0) (omega (arith, h))
