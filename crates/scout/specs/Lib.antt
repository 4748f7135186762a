pub mod Scouting
