-- What the crates above take from the crates below this one: they name this crate alone, since rt walks every way from one crate down to another.
pub use Rattle.step.proofs.FromBelow.{free_shown, in-bays}
pub use Rattle.step.proofs.Settling.{stepped-of}
pub use Rattle.step.proofs.Stepping.{sound-of}
