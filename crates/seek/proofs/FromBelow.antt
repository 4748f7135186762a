-- What the crates above take from the crates below this one: they name this crate alone, since rt walks every way from one crate down to another.
pub use Rattle.clear_on.proofs.Attempting.{in-bays}
pub use Rattle.near.proofs.FromBelow.{around-of, clear-two, inside-less, inside_of, lowest-in, ready-again}
pub use Rattle.near.proofs.Seeking.{Sought, near_of, sought-found, swap-found}
pub use Rattle.trial.proofs.Copying.{free_shown, path-own, trial-first}
