pub mod MessageAsked
pub mod MessageHandles
pub mod MessageRows
