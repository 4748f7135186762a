use Rattle.std.proofs.Common.{◌≡◌, Bool, true, false, not, refl, sym, ap, ◌∙◌}
use Rattle.paper.specs.Basics.{◌and◌}
use Rattle.ways.specs.Few.{few}
use Rattle.words.specs.Sets.{mem}
use Rattle.ways.proofs.by_queue.Goals as goal
use Rattle.ways.proofs.by_queue.Goals.{then-few_rails, else-few_rails, then-few_rails-2, else-few_rails-2}

-- the first test that fails decides
passed : (a b : Bool) → a ≡ true → b ≡ a and b
unfolding ◌and◌
passed a b e = rw e

failed : (a b : Bool) → a ≡ false → false ≡ a and b
unfolding ◌and◌
failed a b e = rw e

and_assoc : (a b c d : Bool) → ((a and b) and c) and d ≡ (a and b) and (c and d)
unfolding ◌and◌
and_assoc true true c d = refl
and_assoc true false c d = refl
and_assoc false b c d = refl

pub returns-then-not-is_in : goal.returns-then-not-is_in
returns-then-not-is_in c =
    let t = c.args.table.now in
    let h = c.args.held.now in
    let few_both : c.if-few_rails.value ≡ few t c.args.u and few t c.args.v = elim c.if-few_rails.branch [
      | then-few_rails w ↦ w.value-is ∙ w.few_rails-then-few_rails.ensures ∙ passed _ _ (sym c.few_rails.ensures ∙ w.if-few_rails.true)
      | else-few_rails w ↦ w.value-is ∙ w.if-few_rails.false ∙ failed _ _ (sym c.few_rails.ensures ∙ w.if-few_rails.false)
    ] in
    let u_free : c.if-few_rails-2.value ≡ (few t c.args.u and few t c.args.v) and not (mem h c.args.u) = elim c.if-few_rails-2.branch [
      | then-few_rails-2 w ↦ w.value-is ∙ ap not w.is_in.ensures ∙ passed _ _ (sym few_both ∙ w.if-few_rails-2.true)
      | else-few_rails-2 w ↦ w.value-is ∙ w.if-few_rails-2.false ∙ failed _ _ (sym few_both ∙ w.if-few_rails-2.false)
    ] in
    ap not c.is_in-then-not-is_in.ensures ∙ passed _ _ (sym u_free ∙ c.if-not-is_in.true) ∙ and_assoc _ _ _ _

pub returns-else-not-is_in : goal.returns-else-not-is_in
returns-else-not-is_in c =
    let t = c.args.table.now in
    let h = c.args.held.now in
    let few_both : c.if-few_rails.value ≡ few t c.args.u and few t c.args.v = elim c.if-few_rails.branch [
      | then-few_rails w ↦ w.value-is ∙ w.few_rails-then-few_rails.ensures ∙ passed _ _ (sym c.few_rails.ensures ∙ w.if-few_rails.true)
      | else-few_rails w ↦ w.value-is ∙ w.if-few_rails.false ∙ failed _ _ (sym c.few_rails.ensures ∙ w.if-few_rails.false)
    ] in
    let u_free : c.if-few_rails-2.value ≡ (few t c.args.u and few t c.args.v) and not (mem h c.args.u) = elim c.if-few_rails-2.branch [
      | then-few_rails-2 w ↦ w.value-is ∙ ap not w.is_in.ensures ∙ passed _ _ (sym few_both ∙ w.if-few_rails-2.true)
      | else-few_rails-2 w ↦ w.value-is ∙ w.if-few_rails-2.false ∙ failed _ _ (sym few_both ∙ w.if-few_rails-2.false)
    ] in
    c.if-not-is_in.false ∙ failed _ (not (mem h c.args.v)) (sym u_free ∙ c.if-not-is_in.false) ∙ and_assoc _ _ _ _
