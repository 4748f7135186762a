pub mod ReadAs
