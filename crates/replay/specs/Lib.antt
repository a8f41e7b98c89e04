pub mod Grammar
pub mod Headline
pub mod RunSteps
pub mod Spoken
