pub mod Command
pub mod ExitCodes
