pub mod Access
pub mod Items
pub mod Rules
