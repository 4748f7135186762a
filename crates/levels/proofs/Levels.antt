-- Levels are made of whole rows: a row that is filled touches no other, and what is cut off behind the last level is read by none.
use mathlib.Core.Path.{◌≡◌, refl, sym, ap, ◌∙◌}
use mathlib.Core.Bool.{Bool, true, false}
use mathlib.Core.List.{List}
use Prim.Native.Nat.{ℕ, zero, suc, ◌+◌, ◌*◌, ◌/◌, ◌≤◌, ◌<◌}
use native.Mathlib.Decide.{ℕ_discrete}
use native.Mathlib.Nat.{le-div_iff_mul-le, le_of_mul-le-mul_right, mul-le-mul_right}
use native.Mathlib.Omega.{arith}
use lib.ListN.{length, take, drop}
use lib.Seq.{get_or-take, get_or-drop, length-take-le}
use Rattle.paper.specs.Basics.{◌and◌, ◌or◌}
use Rattle.words.specs.Sets.{mem, mem_row, words, span, any_below, Kept, Beside}
use Rattle.words.proofs.Sets.{mem-row, zeros, mem-zeros}
use Rattle.levels.specs.Levels.{Levelled}
use Rattle.levels.specs.Raising.{Rails, above, RowRaised, LevelRaised, Raised, RaiseSays}

-- ---- parts of a table

-- a table that is cut off behind row a keeps it
pub row-take : (table : List ℕ) (k a b : ℕ) → (a + 1) * words ≤ k → b < span → mem_row (take k table) a b ≡ mem_row table a b
row-take table k a b h l =
    let i : a * words + b / 64 < k = omega arith in
    mem-row (take k table) a b ∙ rw (get_or-take k table (a * words + b / 64) 0 i) (sym (mem-row table a b))

-- row y of the part of the table from row a on is row a + y
pub row-part : (table : List ℕ) (k a y b : ℕ) → (y + 1) * words ≤ k → b < span
    → mem_row (take k (drop (a * words) table)) y b ≡ mem_row table (a + y) b
row-part table k a y b h l =
    let e : a * words + (y * words + b / 64) ≡ (a + y) * words + b / 64 = omega arith in
    row-take (drop (a * words) table) k y b h l
    ∙ mem-row (drop (a * words) table) y b
    ∙ rw (get_or-drop (a * words) table (y * words + b / 64) 0, e) (sym (mem-row table (a + y) b))

-- ---- a table that ends with its rails has no levels above them
pub only-rails : (n : ℕ) (table : List ℕ) → 0 < n → length table < 2 * n * words → Levelled n table
only-rails n table h l = record { rises = λ j x b k hx hb. absurd (omega arith) }

-- ---- one row is filled

any_below-same : (f g : ℕ → Bool) (k : ℕ) → ((i : ℕ) → i < k → f i ≡ g i) → any_below f k ≡ any_below g k
unfolding any_below
any_below-same f g zero h = refl
any_below-same f g (suc k) h = rw (any_below-same f g k (λ i l. h i (omega arith)), h k (omega arith))

or_turned : (a b : Bool) → a or b ≡ b or a
unfolding ◌or◌
or_turned true true = refl
or_turned true false = refl
or_turned false true = refl
or_turned false false = refl

-- tests on bays that a row names: those that it does not name say nothing
named-same : (a f g : Bool) → (a ≡ true → f ≡ g) → a and f ≡ a and g
unfolding ◌and◌
named-same true f g h = h refl
named-same false f g h = refl

module _ (n j x : ℕ) (table near : List ℕ) (start : (b : ℕ) → b < span → mem near b ≡ mem (zeros words) b or mem_row table x b) where
  -- the row joined to nothing is the row
  pub near-row : (b : ℕ) → b < span → mem near b ≡ mem_row table x b
  near-row b h = start b h ∙ rw (mem-zeros words b) (unfold ◌or◌ in refl)

  module _ (inside : (b : ℕ) → b < span → mem_row table x b ≡ true → b < n) where
    pub near-inside : (y : ℕ) → y < span → mem near y ≡ true → y < n
    near-inside y h e = inside y h (sym (near-row y h) ∙ e)

    -- what is found beside the row's bays in the part of the table from level j on, joined by row x of level j
    pub row-raised : (k : ℕ) (all all' table' : List ℕ) → n * words ≤ k → Beside (take k (drop (j * n * words) table)) near all span
        → ((b : ℕ) → b < span → mem all' b ≡ mem all b or mem_row table (j * n + x) b) → Kept table (j * n + x + n) all' table'
        → RowRaised n j x table table'
    row-raised k all all' table' room beside joins kept =
        let e : (j + 1) * n + x ≡ j * n + x + n = omega arith in
        record {
          row = λ b h.
              rw e
              (kept.row b h
              ∙ joins b h
              ∙ or_turned (mem all b) (mem_row table (j * n + x) b)
              ∙ ap (λ (t : Bool). mem_row table (j * n + x) b or t)
              (beside.same b h
              ∙ any_below-same _ (λ y. mem_row table x y and mem_row table (j * n + y) b) span
              (λ y l.
              rw (near-row y l)
              (named-same (mem_row table x y) _ (mem_row table (j * n + y) b)
              (λ m. let in-n = inside y l m in row-part table k (j * n) y b (omega arith) h)))));
          others = λ i b d h. kept.others i b (λ q. d (q ∙ sym e)) h;
        }

-- ---- a level is filled, row after row

module _ (n j : ℕ) (table : List ℕ) where
  pub level-begun : LevelRaised n j 0 table table
  level-begun = record { rows = λ x b l h. absurd (omega arith); lower = λ e b l h. refl }

  module _ (inside : Rails n table) where
    -- what a row is to become does not change while rows of the level above are filled
    above_kept : (table' : List ℕ) → ((e b : ℕ) → e < (j + 1) * n → b < span → mem_row table' e b ≡ mem_row table e b)
        → (x b : ℕ) → x < n → b < span → above n table' j x b ≡ above n table j x b
    above_kept table' lower x b hx hb =
        rw (lower (j * n + x) b (omega arith) hb)
        (ap (λ (t : Bool). mem_row table (j * n + x) b or t)
        (any_below-same _ (λ y. mem_row table x y and mem_row table (j * n + y) b) span
        (λ y l.
        rw (lower x y (omega arith) l)
        (named-same (mem_row table x y) _ (mem_row table (j * n + y) b)
        (λ m. let in-n = inside x y hx l m in lower (j * n + y) b (omega arith) hb)))))

    pub rails-kept : (table' : List ℕ) → ((x b : ℕ) → x < n → b < span → mem_row table' x b ≡ mem_row table x b) → Rails n table'
    rails-kept table' same x b hx hb e = inside x b hx hb (sym (same x b hx hb) ∙ e)

    pub level-more : (k : ℕ) (table' table'' : List ℕ) → k < n → LevelRaised n j k table table' → RowRaised n j k table' table''
        → LevelRaised n j (k + 1) table table''
    level-more k table' table'' hk s r = record {
      rows = λ x b l h. elim (ℕ_discrete x k) [
        | yes q ↦ rw q (r.row b h ∙ above_kept table' s.lower k b hk h)
        | no q ↦ r.others ((j + 1) * n + x) b (λ z. q (omega arith)) h ∙ s.rows x b (omega arith) h
      ];
      lower = λ e b l h. r.others e b (λ z. omega arith) h ∙ s.lower e b l h;
    }

-- ---- level after level

-- there is a level, and so many fit in a table of that length
pub some-levels : (n len : ℕ) → 0 < n → n * words ≤ len → 1 ≤ len / (n * words)
some-levels n len h l = (le-div_iff_mul-le {k = n * words} (omega arith)).1 (omega arith)

pub levels-fit : (n m len : ℕ) → 0 < n → m ≤ len / (n * words) → m * n * words ≤ len
levels-fit n m len h l = let k : m * (n * words) ≤ len = (le-div_iff_mul-le {k = n * words} (omega arith)).0 l in omega arith

module _ (n : ℕ) (table : List ℕ) where
  pub raised-begun : Raised n 1 table table
  raised-begun = record { rises = λ j x b l hx hb. absurd (omega arith); rails = λ x b hx hb. refl }

  module _ (inside : Rails n table) where
    pub raised-more : (m j : ℕ) (table' table'' : List ℕ) → m ≡ j + 1 → Raised n m table table' → LevelRaised n j n table' table''
        → Raised n (m + 1) table table''
    raised-more m j table' table'' e s r =
        let here : Rails n table' = rails-kept n j table inside table' s.rails in
        record {
          rises = λ i x b l hx hb. elim (ℕ_discrete i j) [
            | yes q ↦ rw q (r.rows x b hx hb ∙ sym (above_kept n j table' here table'' r.lower x b hx hb))
            | no q ↦
                let k : (i + 2) * n ≤ (j + 1) * n = mul-le-mul_right n (omega arith) in
                r.lower ((i + 1) * n + x) b (omega arith) hb
                ∙ s.rises i x b (omega arith) hx hb
                ∙ sym (above_kept n i table' here table'' (λ a c d h. r.lower a c (omega arith) h) x b hx hb)
          ];
          rails = λ x b hx hb. r.lower x b (omega arith) hb ∙ s.rails x b hx hb;
        }

    -- the topmost level may be left out
    pub raised-fewer : (m : ℕ) (table' : List ℕ) → Raised n (m + 1) table table' → Raised n m table table'
    raised-fewer m table' s = record { rises = λ j x b l hx hb. s.rises j x b (omega arith) hx hb; rails = s.rails }

    -- what was filled is levelled, however the table goes on
    levelled : (m : ℕ) (table' : List ℕ) → 0 < n → m * n * words ≤ length table' → Raised n m table table'
        → Levelled n (take (m * n * words) table')
    levelled m table' some l s =
        let size : length (take (m * n * words) table') ≡ m * n * words = length-take-le (m * n * words) table' l in
        let here : Rails n table' = rails-kept n 0 table inside table' s.rails in
        record {
          rises = λ j x b k hx hb.
              let few : j + 2 ≤ m = le_of_mul-le-mul_right {m = j + 2} {n = m} {k = n * words} (omega arith) (omega arith) in
              let high : (j + 2) * n ≤ m * n = mul-le-mul_right n few in
              row-take table' (m * n * words) ((j + 1) * n + x) b (omega arith) hb
              ∙ s.rises j x b few hx hb
              ∙ sym (above_kept n j table' here (take (m * n * words) table')
              (λ e c d h. row-take table' (m * n * words) e c (omega arith) h) x b hx hb);
        }

    pub raise-says : (m : ℕ) (table' : List ℕ) → 0 < n → length table' ≡ length table → 1 ≤ m → m ≤ length table / (n * words)
        → Raised n m table table' → RaiseSays n table table' m
    raise-says m table' some kept l most s =
        let room : m * n * words ≤ length table' = rw kept (levels-fit n m (length table) some most) in
        record { some_level = l; room = room; levelled = levelled m table' some room s; same_rails = s.rails }
