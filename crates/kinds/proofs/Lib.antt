pub mod Carousels
