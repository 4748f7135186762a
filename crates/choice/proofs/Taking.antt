-- The bays of a set come rising. So the one held is the choice of all below the next, if it is replaced only by one with fewer rails.
-- Assumes nothing.
use mathlib.Core.Path.{◌≡◌, refl, sym, ◌∙◌}
use mathlib.Core.Bool.{Bool, true, false}
use mathlib.Core.List.{List}
use Prim.Native.Nat.{ℕ, ◌+◌, ◌*◌, ◌/◌, ◌%◌, ◌≤◌, ◌<◌}
use native.Mathlib.Omega.{arith}
use lib.Bits.{bit_and}
use lib.ListN.{length, get_or}
use Rattle.paper.specs.Basics.{◌and◌, In}
use Rattle.paper.specs.Yard.{Bay, Yard, rails_at}
use Rattle.paper.specs.Path.{Rather}
use Rattle.paper.proofs.Choosing.{Chosen}
use Rattle.paper.proofs.Tests.{by_cases, not-both}
use Rattle.words.specs.Sets.{on, mem, mem_row, words, span, any_below}
use Rattle.words.proofs.Besides.{any_below-of}
use Rattle.words.proofs.Bits.{on_and}
use Rattle.words.proofs.Loops.{Done}
use Rattle.words.proofs.Sets.{mem-row}
use Rattle.yard.specs.Table.{Table}
use Rattle.choice.specs.Taking.{rails, Rowed, Taken}
use Rattle.choice.proofs.Counting.{table-rails}

-- ## The choice of the bays passed

module _ (table set : List ℕ) where
  -- of the bays below x the best is taken, and x is the next one
  pub record Best (best x : ℕ) : Type 0 where
    pub lower : best < x
    pub upto : x ≤ span
    pub there : mem set best ≡ true
    pub next : x < span → mem set x ≡ true
    pub before : (b : ℕ) → b < x → mem set b ≡ true → Rather (rails table) best b

-- no bay passes
pub none_passes : (table : List ℕ) (f : ℕ → Bool) → any_below f span ≡ false → Taken table f span
none_passes table f none = record {
  upto = omega arith;
  hit = λ h. absurd (omega arith);
  missing = λ h b l. by_cases (f b) (λ e. not-both (any_below-of f span b l e) none) (λ e. e);
  before = λ h. absurd (omega arith);
}

-- ## The bays of two rows

pub rows-met : (s : List ℕ) (a : ℕ) (t : List ℕ) (b : ℕ) (both : List ℕ) (i : ℕ) → words ≤ i
    → Done both i (λ k. bit_and (get_or s (a * words + k) 0) (get_or t (b * words + k) 0))
    → (x : ℕ) → x < span → mem both x ≡ mem_row s a x and mem_row t b x
rows-met s a t b both i l d x h =
    let e : mem both x ≡ on (get_or both (x / 64) 0) (x % 64) = unfold mem in refl in
    rw (e, mem-row s a x, mem-row t b x, d.at (x / 64) (omega arith)) (on_and _ _ _)

-- ## The paper's choice

module _ {Y : Yard} {n : ℕ} {table : List ℕ} (t : Table Y n table) (most : n ≤ span) where
  pub rather-paper : (a b : Bay) → a < n → b < n → Rather (rails table) a b → Rather (rails_at Y) a b
  rather-paper a b ha hb r = rw (table-rails t most a ha, table-rails t most b hb) at r

  -- the bays of a row have their rows in the table
  pub table-rowed : (a : Bay) → a < n → n * words ≤ length table → Rowed table (mem_row table a)
  table-rowed a h len b k i = omega (arith, (t.inside a b (sym (t.same a b h k) ∙ i)).1)

  -- What is taken is the choice in a list, if it is in it and passes, and what passes in the list is among what it was taken from.
  pub taken-chosen : {f : ℕ → Bool} {r : ℕ} (q : Bay → Bool) (l : List Bay) → Taken table f r → r < n → In r l → q r ≡ true
      → ((b : Bay) → In b l → q b ≡ true → (b < n) × (f b ≡ true)) → Chosen Y q l r
  taken-chosen {r = r} q l c h i k among = record {
    there = i;
    passes = k;
    before = λ b j p. let z = among b j p in rather-paper r b h z.0 (c.before (omega arith) b (omega (arith, z.0)) z.1);
  }
