-- None of the rings before fits, and in the ring none of the bays below. The search stands at the ring, and the scouts where they say.
use Rattle.std.proofs.Common.{◌≡◌, true, ◌<◌, ◌≤◌, ◌-◌, length, None}
use Rattle.paper.specs.Yard.{bay_of}
use Rattle.words.specs.Sets.{mem, span}
use Rattle.rounds.proofs.Rounds.{Rounds}
use Rattle.acting.specs.Acting.{Tabled}
use Rattle.trial.specs.Trying.{Beside}
use Rattle.trial.proofs.Copying.{free_shown}
use Rattle.scouts.specs.Scouts.{Scouted}
use Rattle.near.proofs.Seeking.{Sought}
use Rattle.seek.proofs.seek_far.Given as goal

abbrev pub invariant-nearest : goal.invariant-nearest
invariant-nearest l = record {
  some_left : l.done < l.count;
  most : l.count ≤ length l.standing;
  behind : l.d ≤ l.done;
  rounds : (t : Tabled (length l.standing) l.table) → Rounds (free_shown t) (bay_of l.placement l.r.0) l.d l.seen l.ring l.met l.before l.done l.count;
  scouted : Scouted l.r.0 l.s.0 l.table l.placement (length l.standing) l.scouts l.room;
  sought : (t : Tabled (length l.standing) l.table) → Beside t.yard l.r.0 l.s.0 l.placement → Sought t.yard l.r.0 l.s.0 l.placement l.d 0;
  none_found : l.found ≡ None;
}

abbrev pub invariant-loop-v : goal.invariant-loop-v
invariant-loop-v l = record {
  upto : l.v ≤ span;
  hit : l.v < span → mem l.ring l.v ≡ true;
  sought : (t : Tabled (length l.standing) l.table) → Beside t.yard l.r.0 l.s.0 l.placement → Sought t.yard l.r.0 l.s.0 l.placement l.d l.v;
  none_found : l.found ≡ None;
  scouted : Scouted l.r.0 l.s.0 l.table l.placement (length l.standing) l.scouts l.room;
}

abbrev pub decreases-loop-v : goal.decreases-loop-v
decreases-loop-v l = span - l.v
