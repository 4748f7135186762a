use Rattle.std.proofs.Common.{◌≡◌, suc, ◌+◌, ◌-◌, ◌<◌, length, sym, ◌∙◌, arith}
use borrow.Author.Tests.{eqb-true}
use Rattle.paper.specs.Yard.{crossings, named}
use Rattle.chains.proofs.Linking.{linked-drop}
use Rattle.dropping.proofs.Trimming.{Trims, trims-own, trims-other, trim_end, trim-over}
use Rattle.dropping.proofs.drop_trip.Goals as goal
use Rattle.dropping.proofs.drop_trip.Goals.{then-is_of, else-is_of}

-- the leaving is dropped
pub loop-m-init : goal.loop-m-init
loop-m-init c =
    let plan = c.args.plan.now in
    let name = c.args.name in
    let last = c.args.last in
    let p = c.requires.0 in
    let r = c.next_own-m.result in
    let says = c.next_own-m.ensures in
    let own : (named (crossings plan) name).carrier ≡ c.args.carrier.0 = eqb-true _ _ p.starts in
    let trims = trims-own plan c.args.gone.now c.args.carrier.0 name (omega (arith, p.upto, p.search.inside)) p.search.long_gone p.starts in
    let long = trims.long ∙ p.search.long_gone in
    record {
      after = says.after;
      upto = says.upto;
      long = long;
      linked = linked-drop plan c.args.gone.now _ says.linked _ trims.keeps;
      dropped = trim-over plan _ c.args.carrier.0 long (named (crossings plan) name).carrier (r - (name + 1)) (name + 1) r (suc last - r) (suc last - (name + 1))
          (omega (arith, says.after)) (omega (arith, says.after, says.upto)) (omega (arith, says.upto, p.search.inside)) own
          (λ k l h e. trims.keeps k (says.passed k (omega arith) h e))
          ∙ trims.next (suc last - (name + 1)) (suc last - name) (omega (arith, p.upto));
      own = λ l. says.own l ∙ own;
    }

pub next_own-m-requires-in-loop-m : goal.next_own-m-requires-in-loop-m
next_own-m-requires-in-loop-m c =
    let plan = c.args.plan.now in
    let t = c.loop-m in
    let search = c.requires.0.search in
    let upto = c.loop-m-test.true in
    let inside : t.m < length plan = omega (arith, upto, search.inside) in
    let trims : Trims plan t.gone c.args.carrier.0 t.m c.if-is_of.gone =
    elim c.if-is_of.branch [
      | then-is_of w ↦ rw w.gone-is (trims-own plan t.gone c.args.carrier.0 t.m inside t.invariant.long (sym c.is_of.ensures ∙ w.if-is_of.true))
      | else-is_of w ↦ rw w.gone-is (trims-other plan t.gone c.args.carrier.0 t.m inside t.invariant.long (sym c.is_of.ensures ∙ w.if-is_of.false))
    ] in
    (upto, record { inside = search.inside; long_gone = trims.long ∙ t.invariant.long; linked = linked-drop plan t.gone t.links t.invariant.linked _ trims.keeps })

pub loop-m-preserved : goal.loop-m-preserved
loop-m-preserved c =
    let plan = c.args.plan.now in
    let last = c.args.last in
    let t = c.loop-m in
    let search = c.requires.0.search in
    let upto = c.loop-m-test.true in
    let inside : t.m < length plan = omega (arith, upto, search.inside) in
    let trims : Trims plan t.gone c.args.carrier.0 t.m c.if-is_of.gone =
    elim c.if-is_of.branch [
      | then-is_of w ↦ rw w.gone-is (trims-own plan t.gone c.args.carrier.0 t.m inside t.invariant.long (sym c.is_of.ensures ∙ w.if-is_of.true))
      | else-is_of w ↦ rw w.gone-is (trims-other plan t.gone c.args.carrier.0 t.m inside t.invariant.long (sym c.is_of.ensures ∙ w.if-is_of.false))
    ] in
    let r = c.next_own-m-in-loop-m.result in
    let says = c.next_own-m-in-loop-m.ensures in
    let own = t.invariant.own upto in
    let long = trims.long ∙ t.invariant.long in
    record {
      after = omega (arith, says.after, t.invariant.after);
      upto = says.upto;
      long = long;
      linked = says.linked;
      dropped = trim-over plan _ c.args.carrier.0 long (named (crossings plan) t.m).carrier (r - (t.m + 1)) (t.m + 1) r (suc last - r) (suc last - (t.m + 1))
          (omega (arith, says.after)) (omega (arith, says.after, says.upto)) (omega (arith, says.upto, search.inside)) own (λ k l h e. says.passed k (omega arith) h e)
          ∙ trims.next (suc last - (t.m + 1)) (suc last - t.m) (omega (arith, upto)) ∙ t.invariant.dropped;
      own = λ l. says.own l ∙ own;
    }

pub returns : goal.returns
returns c =
    let t = c.loop-m in
    record {
      dropped = trim_end c.args.plan.now t.gone c.args.carrier.0 t.m 0 (suc c.args.last - t.m) (omega (arith, c.loop-m-test.false, t.invariant.upto)) ∙ t.invariant.dropped;
      linked = t.invariant.linked;
    }
