use Rattle.std.proofs.Common.{[], ◌∷◌}
use Rattle.paper.specs.Yard.{Yard}
use Rattle.first_bad.specs.Table.{Table}
use Rattle.apart.proofs.Reaching.{Seeing, Low}
use Rattle.apart.proofs.reach_word.Given as goal

-- as for `reach`, in one word
abbrev pub invariant-loop : goal.invariant-loop
invariant-loop l = record {
  seeing : (Y : Yard) → Table Y l.n l.table → Seeing Y l.counter (l.seen ∷ []) (l.ring ∷ []);
  low : Low l.n (l.ring ∷ []);
}
