pub mod Digits
pub mod Numbers
pub mod ScriptLaws
pub mod Feeds
