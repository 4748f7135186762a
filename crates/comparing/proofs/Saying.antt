-- What comparing says, way out by way out: each refusal comes after the tests before it have passed, and past the last the differences are those counted.
use Rattle.std.proofs.Common.{Err, Ok}
use mathlib.Core.Path.{◌≡◌, sym, ◌∙◌, ap, ap₂}
use mathlib.Core.Bool.{false}
use mathlib.Core.List.{List, map}
use mathlib.Core.Option.{none, some}
use Prim.Native.Nat.{ℕ, zero, suc, ◌+◌, ◌≤◌, ◌<◌}
use native.Mathlib.Omega.{arith}
use borrow.Author.Tests.{lt-ltb, le-ltb, ne_eqb}
use lib.Dec.{ltb}
use lib.IntN.{ℤ, pos, ◌-ℤ◌}
use lib.ListN.{length, get_or, length-map}
use lib.Seq.{ext_get_or}
use Rattle.paper.specs.Basics.{◌or◌, or_else, up_to, count_from}
use Rattle.paper.specs.Limits.{most_carriers}
use Rattle.paper.specs.Yard.{most_crossings}
use Rattle.paper.proofs.Tests.{or_left, or_right, or-neither, none_both}
use Rattle.docket.specs.Reading.{refusal_of}
use Rattle.docket.specs.declared.Carrier.{Carrier as Carried}
use Rattle.docket.specs.declared.Refusal.{Refusal}
use Rattle.docket.specs.declared.Refusal.TheVariants.{Size, Start, Room}
use Rattle.comparing.specs.Comparing.{first_above, refusal, comparison, equal_leading, difference, differences, differences_by}
use Rattle.paper.specs.Docket.{granted}
use Rattle.paper.proofs.Reach.{count-length}
use Rattle.differences.specs.Filled.{FillSays}
use Rattle.comparing.specs.Statements.{Counts, CountSays, DifferSays}
use Rattle.comparing.specs.Counted.{Counted}
use Rattle.comparing.proofs.Exchanged.{Passed, passed-granted}

-- what is counted for each carrier gives the differences
up_at : (f : ℕ → ℤ) (a k i : ℕ) → i < k → get_or (map f (count_from a k)) i (pos 0) ≡ f (a + i)
unfolding count_from
up_at f a zero i h = absurd (omega arith)
up_at f a (suc k) zero h = ap f (omega arith)
up_at f a (suc k) (suc i) h = up_at f (suc a) k i (omega arith) ∙ ap f (omega arith)

filled-differences : (first second firsts seconds : List ℕ) (filled : List ℤ) → Counts first firsts → Counts second seconds → FillSays seconds firsts filled
    → filled ≡ differences first second
filled-differences first second firsts seconds filled f s says =
    ext_get_or (pos 0) filled (differences first second)
    (says.long ∙ sym (length-map (up_to most_carriers) (difference first second) ∙ count-length 0 most_carriers))
    (λ c h.
    let low : c < most_carriers = rw (← says.long) h in
    says.less c low
    ∙ ap₂ (λ m n. pos m -ℤ pos n) (s c low) (f c low)
    ∙ sym (up_at (difference first second) 0 most_carriers c low ∙ ap (difference first second) (omega arith)))

module _ (first second : List ℕ) (lent : List ℤ) where
  -- a refusal leaves the list as it was
  refused : (r : Refusal) → refusal first second (length lent) ≡ some (refusal_of r) → DifferSays first second lent (Err r) lent
  unfolding comparison
  refused r e = record { answers = rw e; leaves = rw e }

  pub says-first-long : most_crossings < length first → DifferSays first second lent (Err Size) lent
  unfolding refusal
  says-first-long h = refused Size (rw (or_left _ (ltb most_crossings (length second)) (lt-ltb most_crossings (length first) h)))

  pub says-second-long : most_crossings < length second → DifferSays first second lent (Err Size) lent
  unfolding refusal
  says-second-long h = refused Size (rw (or_right (ltb most_crossings (length first)) _ (lt-ltb most_crossings (length second) h)))

  module _ (f : length first ≤ most_crossings) (s : length second ≤ most_crossings) where
    short : ltb most_crossings (length first) or ltb most_crossings (length second) ≡ false
    short = or-neither _ _ (le-ltb most_crossings (length first) f) (le-ltb most_crossings (length second) s)

    pub says-above : (c : Carried) → some c.0 ≡ or_else (first_above first) (first_above second) → DifferSays first second lent (Err (Start c)) lent
    unfolding refusal
    says-above c e = refused (Start c) (rw (short, ← e))

    module _ (low : none ≡ or_else (first_above first) (first_above second)) where
      pub says-room : (length lent ≡ most_carriers → ⊥) → DifferSays first second lent (Err (Room most_carriers)) lent
      unfolding refusal
      says-room d = refused (Room most_carriers) (rw (short, ← low, ne_eqb (length lent) most_carriers d))

      pub says-granted : length lent ≡ most_carriers → (firsts seconds : List ℕ) (filled : List ℤ) {a b : Counted} → CountSays first a firsts → CountSays second b seconds
          → FillSays seconds firsts filled → (n : ℕ) → n ≡ equal_leading first second → DifferSays first second lent (Ok n) filled
      says-granted e firsts seconds filled cf cs says n is =
          let lows = none_both (first_above first) (first_above second) (sym low) in
          let passed : Passed first second (length lent) = record {
            first_short = f;
            second_short = s;
            first-low = lows.0;
            second-low = lows.1;
            room-due = e;
          } in
          let grants = passed-granted first second (length lent) passed in
          record {
            answers = ap granted is ∙ sym grants;
            leaves = filled-differences first second firsts seconds filled (cf.counted (cf.answers ∙ lows.0)) (cs.counted (cs.answers ∙ lows.1)) says ∙ sym (ap (differences_by first second lent) grants);
          }
