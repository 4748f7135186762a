-- What the crates above take from the crates below this one: they name this crate alone, since rt walks every way from one crate down to another.
pub use Rattle.home.proofs.Homing.{stages-done, stages-stuck}
pub use Rattle.home.proofs.FromBelow.{in-bays, sound-of}
