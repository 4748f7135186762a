-- What the crates above take from the crates below this one: they name this crate alone, since rt walks every way from one crate down to another.
pub use Rattle.clear_on.specs.Going.{Attempts, Logged}
unfoldable pub use Rattle.near.specs.Seeking.{fitting}
pub use Rattle.near.specs.Seeking.{SeekAsks}
pub use Rattle.trial.specs.Trying.{Beside, Near}
