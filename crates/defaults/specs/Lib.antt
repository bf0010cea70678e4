pub mod Charges
pub mod Limits
