use Rattle.std.proofs.Common.{◌≡◌, length}
use Rattle.paper.specs.Yard.{Yard}
use Rattle.words.specs.Sets.{words}
use Rattle.first_bad.specs.Table.{Table}
use Rattle.apart.proofs.Reaching.{Seeing, Low}
use Rattle.apart.proofs.reach.Given as goal

-- what is seen after so many rings has all that is so many rails off, and is closed under rails but for the last ring; no ring leaves the n bays
abbrev pub invariant-loop : goal.invariant-loop
invariant-loop l = record {
  long : length l.ring ≡ words;
  seeing : (Y : Yard) → Table Y l.n l.table → Seeing Y l.counter l.seen l.ring;
  low : Low l.n l.ring;
}
