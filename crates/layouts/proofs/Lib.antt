pub mod Files
pub mod Words
pub mod Map
pub mod Scenario
pub mod Program
pub mod Numbers
pub mod Rails
