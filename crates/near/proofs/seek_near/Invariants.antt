-- None of the rings before fits, and in the ring none of the bays below.
use Rattle.std.proofs.Common.{◌≡◌, true, ◌<◌, ◌≤◌, ◌-◌, length}
use Rattle.words.specs.Sets.{mem, span}
use Rattle.rings.proofs.Searching.{Widening}
use Rattle.acting.specs.Acting.{Tabled}
use Rattle.trial.specs.Trying.{Beside}
use Rattle.trial.proofs.Copying.{free_shown}
use Rattle.paper.specs.Yard.{bay_of}
use Rattle.near.specs.declared.Nearby.TheVariants.{Farther}
use Rattle.near.proofs.Seeking.{Sought}
use Rattle.near.proofs.seek_near.Given as goal

abbrev pub invariant-nearest : goal.invariant-nearest
invariant-nearest l = record {
  widening : (t : Tabled (length l.standing) l.table) → l._d < l.last → Widening (free_shown t) (bay_of l.placement l.r.0) l._d l.seen l.ring;
  sought : (t : Tabled (length l.standing) l.table) → Beside t.yard l.r.0 l.s.0 l.placement → Sought t.yard l.r.0 l.s.0 l.placement l._d 0;
  none_found : l.found ≡ Farther l.last;
}

abbrev pub invariant-loop-v : goal.invariant-loop-v
invariant-loop-v l = record {
  upto : l.v ≤ span;
  hit : l.v < span → mem l.ring l.v ≡ true;
  sought : (t : Tabled (length l.standing) l.table) → Beside t.yard l.r.0 l.s.0 l.placement → Sought t.yard l.r.0 l.s.0 l.placement l._d l.v;
  none_found : l.found ≡ Farther l.last;
}

abbrev pub decreases-loop-v : goal.decreases-loop-v
decreases-loop-v l = span - l.v
