pub mod Limits
pub mod Cents
pub mod Boards
pub mod Views
