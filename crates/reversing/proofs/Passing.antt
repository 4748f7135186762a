-- A plan that passes the check from start to goal has a reverse that passes it from goal to start: the first six do not tell start and goal
-- apart, since they have one length, and the reverse of a legal list is legal from its end and leads back.
use mathlib.Core.Path.{◌≡◌, sym}
use mathlib.Core.List.{List}
use mathlib.Core.Option.{none}
use Prim.Native.Nat.{ℕ}
use native.Mathlib.Omega.{arith}
use lib.ListN.{length}
use Rattle.paper.specs.Yard.{crossings}
use Rattle.paper.specs.Order.{Order, backwards}
use Rattle.paper.specs.Docket.{yard_of}
use Rattle.paper.specs.Answers.{check}
use Rattle.paper.proofs.Admitted.{Clean, clean_of, of-clean, good_of}
use Rattle.paper.proofs.Checking.{check-passed, passed-check}
use Rattle.paper.proofs.Reversing.{reverse-leads-back, reverse-legal}
use Rattle.reversing.specs.Reversing.{reversed}
use Rattle.reversing.proofs.Backwards.{reversed-reads, reversed-length}

module _ (o : Order) where
  -- 1 to 6 pass with start and goal exchanged, for a plan of the same length
  clean-turned : (lent : ℕ) → Clean o lent → Clean (backwards o) lent
  clean-turned lent c = record {
    sizes = record {
      enough-bays = c.sizes.enough-bays;
      few_bays = c.sizes.few_bays;
      few-rails = c.sizes.few-rails;
      even-ends = c.sizes.even-ends;
      same_length = sym c.sizes.same_length;
      short-plan = c.sizes.short-plan;
    };
    rails = c.rails;
    reached = c.reached;
    uncrowded = omega (arith, c.uncrowded, c.sizes.same_length);
    starts = c.goals;
    goals = c.starts;
  }

  pub reversed-passes : (plan : List ℕ) → check o plan ≡ none → check (backwards o) (reversed plan) ≡ none
  reversed-passes plan h =
      let p = check-passed o plan h in
      let c = clean_of o (length plan) p.sound in
      let xs = crossings plan in
      let Y = yard_of o in
      passed-check (backwards o) (reversed plan) record {
        sound = rw (reversed-length plan) (of-clean (backwards o) (length plan) (clean-turned (length plan) c));
        lawful = rw (reversed-reads plan, ← p.home) (reverse-legal Y o.starts xs (good_of o o.starts c.starts).apart p.lawful);
        home = rw (reversed-reads plan, ← p.home) (reverse-leads-back Y o.starts xs p.lawful);
      }
