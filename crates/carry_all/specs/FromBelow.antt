-- What the crates above take from the crates below this one: they name this crate alone, since rt walks every way from one crate down to another.
pub use Rattle.carry.specs.FromBelow.{BaysBelow, Goals, Loopless, Owners, Staged, Stages}
