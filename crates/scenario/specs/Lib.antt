pub mod Under
pub mod Found
pub mod ScenarioRead
