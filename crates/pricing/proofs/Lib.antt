pub mod Rounding
pub mod Prices
pub mod Invariants
