-- `vacate::vacate` meets its contract. The cases of the code are those of the paper; a bay beside x is the nearest there can be.
use Rattle.std.proofs.Common.{refl, sym, ◌∙◌, ◌<◌, arith, rules}
use Rattle.words.specs.Sets.{span}
use Rattle.choice.proofs.Taking.{table-rowed}
use Rattle.vacate.proofs.Vacating.{vacates-empty, vacates-held, vacates-beside, inside-e, empty-e, full-in}
use Rattle.vacate.proofs.vacate.Goals as goal

pub returns-then-is_in : goal.returns-then-is_in
returns-then-is_in c =
    let p = c.requires in λ s. vacates-empty s p.most _ p.inside p.placed _ (sym c.if-is_in.true ∙ c.is_in.ensures)

pub returns-then-is_in-2 : goal.returns-then-is_in-2
returns-then-is_in-2 c =
    let p = c.requires in λ s. vacates-held s p.most _ p.inside p.placed _ (sym c.if-is_in.false ∙ c.is_in.ensures) (sym c.if-is_in-2.true ∙ c.is_in-2.ensures)

pub free-beside-requires : goal.free-beside-requires
free-beside-requires c =
    let p = c.requires in
    record {
      row = omega (arith, p.inside, p.table_size);
      rowed = table-rowed p.shown.joins p.most _ p.inside p.table_size;
      wanted_size = search rules;
      held_size = search rules;
    }

pub cross-requires : goal.cross-requires
cross-requires c =
    let free = c.free-beside in
    let is-in2 = c.is_in-2 in
    let if1 = c.if-is_in in
    let is-in = c.is_in in
    let p = c.requires in
    let out = c.args.out.now in
    let full = sym if1.false ∙ is-in.ensures in
    let unheld = sym c.if-is_in-2.false ∙ is-in2.ensures in
    let low = free.ensures in
    let there : free.result < span = c.if-beside-lt-SPAN.true in
    record {
      from_inside = p.inside;
      to_inside = inside-e p.shown p.most _ p.inside p.placed out full unheld _ low there;
      most = p.most;
      empty_size = p.empty_size;
      counts = omega arith;
      full = full-in p.shown p.most _ p.inside p.placed out full unheld _ low there;
      free = empty-e p.shown p.most _ p.inside p.placed out full unheld _ low there;
      placed = p.placed;
    }

pub returns-then-beside-lt-SPAN : goal.returns-then-beside-lt-SPAN
returns-then-beside-lt-SPAN c =
    let cross = c.cross in
    let if3 = c.if-beside-lt-SPAN in
    let free = c.free-beside in
    let if2 = c.if-is_in-2 in
    let is-in2 = c.is_in-2 in
    let if1 = c.if-is_in in
    let is-in = c.is_in in
    let p = c.requires in
    let full = sym if1.false ∙ is-in.ensures in
    let unheld = sym if2.false ∙ is-in2.ensures in
    λ s. vacates-beside s p.most _ p.inside p.placed _ full unheld _ free.ensures if3.true _ _ _ _ _ _ refl refl cross.ensures

pub fill_nearest-requires : goal.fill_nearest-requires
fill_nearest-requires c =
    let is-in2 = c.is_in-2 in
    let if1 = c.if-is_in in
    let is-in = c.is_in in
    let p = c.requires in
    record { vacate_asks = p; x_value = (sym is-in.ensures ∙ if1.false, sym is-in2.ensures ∙ c.if-is_in-2.false) }

pub returns : goal.returns
returns c =
    let fill-nearest = c.fill_nearest in
    fill-nearest.ensures
