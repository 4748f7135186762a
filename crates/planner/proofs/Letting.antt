-- What refusals 1 to 6 let through is what the procedure asks: a yard in one piece without loops, and placements in it.
-- Assumes nothing.
use mathlib.Core.Path.{◌≡◌, sym, ◌∙◌}
use mathlib.Core.List.{List}
use mathlib.Core.Option.{none}
use Prim.Native.Nat.{ℕ}
use native.Mathlib.Omega.{arith}
use Rattle.paper.specs.Yard.{joined, bay_of}
use Rattle.paper.specs.Order.{Order}
use Rattle.paper.specs.Docket.{yard_of}
use Rattle.paper.specs.Answers.{first_six}
use Rattle.paper.proofs.Tests.{by_cases}
use Rattle.paper.proofs.Members.{count-high, in_count}
use Rattle.paper.proofs.Admitted.{clean_of, sound-of, good_of, all-reached}
use Rattle.yard.specs.Table.{Table}
use Rattle.yard.specs.declared.Yard.{Yard as Numbers}
use Rattle.yard.specs.Opening.{Admits}
use Rattle.acting.specs.Acting.{Tabled}
use Rattle.likely.specs.FromBelow.{Admitted}

module _ (o : Order) where
  pub admitted_of : (table : List ℕ) → first_six o 0 ≡ none → Table (yard_of o) o.bays table → Admitted o.bays table o.starts o.goals
  admitted_of table h t =
      let c = clean_of o 0 h in
      let Y = yard_of o in
      let starts = good_of o o.starts c.starts in
      let goals = good_of o o.goals c.goals in
      let sound = sound-of o c.rails in
      record {
        most = c.sizes.few_bays;
        few = omega (arith, c.uncrowded);
        apart = starts.apart;
        inside = λ x k. omega (arith, count-high 0 o.bays (bay_of o.starts x) (starts.inside x k));
        goals = record {
          many = sym c.sizes.same_length;
          apart = goals.apart;
          inside = λ x k. omega (arith, count-high 0 o.bays (bay_of o.goals x) (goals.inside x k));
        };
        loopless = record {
          none = λ a k.
              let same = t.same a a k (omega (arith, c.sizes.few_bays)) in
              by_cases (joined Y a a) (λ e. absurd (sound.no_loop a e)) (λ e. same ∙ e);
        };
        reaching = record {
          tabled = record { yard = Y; joins = t };
          reached = λ a b k l. all-reached Y c.reached a b (in_count 0 o.bays a (omega arith) (omega arith)) (in_count 0 o.bays b (omega arith) (omega arith));
        };
      }

  -- an open yard and its table
  pub let-in : {y : Numbers} {table : List ℕ} → none ≡ first_six o 0 → Admits o y table → Admitted y.bays table o.starts o.goals
  let-in {y} {table} h a = rw a.bays (admitted_of table (sym h) a.rows)

  abbrev pub tabled-of : {y : Numbers} {table : List ℕ} → Admits o y table → Tabled y.bays table
  tabled-of a = record { yard = yard_of o; joins = rw a.bays a.rows }
