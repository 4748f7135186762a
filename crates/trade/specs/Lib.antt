pub mod Trading
