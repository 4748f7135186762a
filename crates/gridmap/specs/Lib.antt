pub mod Cells
pub mod MapRead
pub mod Cell
