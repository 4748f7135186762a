-- `vacate::fill_nearest` meets its contract. On the path to the nearest empty bay the carriers can be shifted.
use Rattle.std.proofs.Common.{◌≡◌, refl, sym, ap, ◌∙◌, arith, length, take, length-take-le, rules}
use Rattle.paper.proofs.Nearest.{nearest-empty}
use Rattle.paper.specs.Yard.{is_empty}
use Rattle.words.specs.Sets.{span}
use Rattle.rings.specs.Ways.{end_of}
use Rattle.vacate.proofs.Vacating.{way-told, vacates-none, can_shift, vacates-filled}
use Rattle.vacate.proofs.fill_nearest.Goals as goal

pub way_out-requires : goal.way_out-requires
way_out-requires c =
    let p = c.requires.vacate_asks in
    let full = c.requires.x_value in
    record {
      way = record {
        lent = record { most = p.most; table_size = p.table_size; held_size = p.held_size; shown = p.shown };
        inside = p.inside;
        unheld = full.1;
        wanted_size = p.empty_size;
        room = search rules;
      };
      levelled = p.levelled;
      unwanted = full.0;
    }

pub returns-in_default : goal.returns-in_default
returns-in_default c =
    let p = c.requires.vacate_asks in
    let full = c.requires.x_value in
    λ s. vacates-none s p.most _ p.inside p.placed _ (sym full.0) (sym full.1) (ap end_of (sym c.in_default.is) ∙ (c.way_out.ensures.found s (is_empty _) p.placed.empties).nearest ∙ sym (nearest-empty _ _ _ _))

pub slice_bounds-path-end : goal.slice_bounds-path-end
slice_bounds-path-end c =
    let p = c.requires.vacate_asks in
    let w = c.way_out in
    let t = way-told c.in-Some.is (w.ensures.found p.shown (is_empty _) p.placed.empties) in
    let kept : length w.new.path ≡ span = w.auto.path in
    omega (arith, t.fits, p.most, kept)

pub slice_bounds-shift-end : goal.slice_bounds-shift-end
slice_bounds-shift-end c =
    let p = c.requires.vacate_asks in
    let w = c.way_out in
    let t = way-told c.in-Some.is (w.ensures.found p.shown (is_empty _) p.placed.empties) in
    let kept : length w.new.path ≡ span = w.auto.path in
    sym (length-take-le _ _ (omega (arith, t.fits, p.most, kept)))

pub shift-requires : goal.shift-requires
shift-requires c =
    let p = c.requires.vacate_asks in
    let full = c.requires.x_value in
    let w = c.way_out in
    let t = way-told c.in-Some.is (w.ensures.found p.shown (is_empty _) p.placed.empties) in
    let kept : length w.new.path ≡ span = w.auto.path in
    let len : length (take c.in-Some.m w.new.path) ≡ c.in-Some.m = length-take-le _ _ (omega (arith, t.fits, p.most, kept)) in
    record { most = p.most; empty_size = p.empty_size; counts = omega (arith, len, t.fits, p.most); placed = p.placed; can_shift = can_shift p.shown p.most _ p.inside p.placed c.args.out.now (sym full.0) (sym full.1) _ (t.nearest ∙ sym (nearest-empty _ _ _ _)) _ (t.path _ refl) }

pub returns : goal.returns
returns c =
    let shift = c.shift in
    let p = c.requires.vacate_asks in
    let full = c.requires.x_value in
    let w = c.way_out in
    let t = way-told c.in-Some.is (w.ensures.found p.shown (is_empty _) p.placed.empties) in
    let kept : length w.new.path ≡ span = w.auto.path in
    let len : length (take c.in-Some.m w.new.path) ≡ c.in-Some.m = length-take-le _ _ (omega (arith, t.fits, p.most, kept)) in
    λ s.
    let v = way-told c.in-Some.is (w.ensures.found s (is_empty _) p.placed.empties) in
    vacates-filled s p.most _ p.inside p.placed _ (sym full.0) (sym full.1) _ (v.nearest ∙ sym (nearest-empty _ _ _ _)) _ (v.path _ refl) _ _ _ _ _ _ refl refl (omega (arith, len, t.fits)) shift.ensures
