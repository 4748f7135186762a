use Rattle.chains.specs.Links.{place_of}
use Rattle.chains.specs.Asking.{SkipSays}
use Rattle.std.proofs.Common.{length, ◌-◌}
use Rattle.chains.proofs.skip.Given as goal

abbrev pub invariant-loop-m : goal.invariant-loop-m
invariant-loop-m l = SkipSays l.plan l.gone l.start (place_of l.link) l.m

abbrev pub decreases-loop-m : goal.decreases-loop-m
decreases-loop-m l = length l.plan - l.m
