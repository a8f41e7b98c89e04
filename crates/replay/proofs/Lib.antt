pub mod GrammarLaw
pub mod GrammarNames
pub mod RunEnd
pub mod RunEvents
pub mod RunLines
pub mod RunRows
