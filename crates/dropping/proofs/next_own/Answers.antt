use Rattle.std.proofs.Common.{◌≡◌, refl, arith}
use Rattle.chains.specs.Links.{own, sought}
use Rattle.dropping.proofs.next_own.Goals as goal

pub ahead-requires : goal.ahead-requires
unfolding own sought
ahead-requires c =
    let p = c.requires.1 in
    record {
      search = record { inside = omega (arith, c.requires.0, p.inside); long_gone = p.long_gone; linked = p.linked };
      kind_up = omega arith;
      again_up = omega arith;
      goes_by = refl;
      seeks = refl;
    }

pub returns : goal.returns
unfolding own sought
returns c =
    let a = c.ahead.ensures in
    record {
      after = omega (arith, a.after, c.requires.0, c.min.ensures);
      upto = omega (arith, c.min.ensures);
      passed = λ k u h e. a.met.passed k u (omega (arith, c.min.ensures)) e;
      own = λ l.
          let same : c.min.result ≡ c.ahead.result = omega (arith, c.min.ensures) in
          rw same (a.met.meets (omega (arith, same, c.requires.1.inside)));
      linked = a.linked;
    }
