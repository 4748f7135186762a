-- The table of joined bays, for those who open a yard and hold its table.
-- Assumes nothing.
pub use Rattle.first_bad.specs.Table.{Table}
