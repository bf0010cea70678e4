pub mod Fits
pub mod Lists
pub mod Parts
pub mod Bounds
pub mod Ranges
pub mod Passed
pub mod Shared
pub mod Statements
