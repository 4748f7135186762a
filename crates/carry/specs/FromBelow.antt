-- What the crates above take from the crates below this one: they name this crate alone, since rt walks every way from one crate down to another.
pub use Rattle.along.specs.Along.{Bound, Goals, HomeBelow}
pub use Rattle.home.specs.Homing.{Owners, Stages, StagesAs}
pub use Rattle.home.specs.FromBelow.{BaysBelow, Loopless}
pub use Rattle.home.specs.Staged.{Staged}
