-- `step::step_aside` meets its contract.
use Rattle.std.proofs.Common.{◌∙◌, ◌≡◌, arith, length, rules}
use Rattle.acting.proofs.Acting.{tallied-from}
use Rattle.step.proofs.Stepping.{r-there, r-inside, w-empty, stepped-cross}
use Rattle.step.proofs.Aside.{inside-e, empty-e, full-in, made-aside}
use Rattle.step.proofs.step_aside.Goals as goal

pub fill-aside-requires : goal.fill-aside-requires
fill-aside-requires c =
    let p = c.requires.ready in
    let z = c.requires.aside_asks in
    record {
      cross_asks = record {
        from_inside = z.can.bay_there;
        to_inside = inside-e p.tabled p z;
        most = p.most;
        empty_size = p.empty_size;
        counts = omega arith;
        full = full-in p.tabled p z;
        free = empty-e p.tabled p z;
        placed = p.placed;
      };
      words_in_bounds = p.table_size;
    }

pub cross-crossings-requires : goal.cross-crossings-requires
cross-crossings-requires c =
    let fill = c.fill-aside in
    let p = c.requires.ready in
    let z = c.requires.aside_asks in
    let kw : length fill.new.standing ≡ length c.args.standing.now = fill.auto.standing in
    let kf : length fill.new.empty ≡ length c.args.empty.now = fill.auto.empty in
    let d = fill.ensures p.tabled in
    let m = made-aside p.tabled p z in
    record {
      from_inside = rw kw (d.placed.inside c.args.next.carrier.0 (r-inside p.tabled p.most z.can p.placed _ m _ d.moved));
      to_inside = rw kw z.can.bay_there;
      most = omega (arith, p.most, kw);
      empty_size = omega (arith, p.empty_size, kf);
      counts = omega (arith, d.counted);
      full = r-there p.tabled p.most z.can p.placed _ m _ d.moved;
      free = w-empty p.tabled p.most z.can p.placed _ m _ d.moved;
      placed = rw kw d.placed;
    }

pub returns : goal.returns
returns c =
    let cross = c.cross-crossings in
    let fill = c.fill-aside in
    let p = c.requires.ready in
    let z = c.requires.aside_asks in
    let kw : length fill.new.standing ≡ length c.args.standing.now = fill.auto.standing in
    let d = fill.ensures p.tabled in
    let crossed = rw kw at cross.ensures in
    record {
      few = omega (arith, d.counted, crossed.counted);
      proceeds = λ t.
          let m = made-aside t p z in
          stepped-cross t p.most z.can p.placed _ m (fill.ensures t) (tallied-from _ crossed);
    }
