pub mod Limits
pub mod Records
pub mod Filing
pub mod Views
pub mod Sides
pub mod Working
