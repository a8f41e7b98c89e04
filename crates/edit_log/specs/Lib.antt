pub mod Edits
pub mod Outcomes
pub mod Laws
pub mod Notes
pub mod Log
pub mod Start
pub mod Run
