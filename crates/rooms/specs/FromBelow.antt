-- What the crates above take from the crates below this one: they name this crate alone, since rt walks every way from one crate down to another.
pub use Rattle.outcome.specs.Handing.{Hands, HandsOut, HandsOutKept, PlanTold, counted_of, denied, long, parked_by, told}
pub use Rattle.outcome.specs.Counted.{Counted}
