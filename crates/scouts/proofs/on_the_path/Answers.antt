-- `scouts::on_the_path` meets its contract.
use Rattle.std.proofs.Common.{◌≡◌, refl, sym, ◌∙◌, inl, inr, ◌<◌, length, get_or, rules}
use Rattle.scouts.proofs.on_the_path.Goals as goal

pub returns-then-path-come : goal.returns-then-path-come
returns-then-path-come c = record { there = c.if-come-path.true; stands = c.if-path-come.true; which = inl (refl, refl) }

pub returns : goal.returns
returns c =
    let z = c.requires in
    let e = c.set_out.ensures in
    record { there = rw e.far z.there; stands = rw (e.far, e.there) z.starts; which = inr e }
