pub mod Quantities
pub mod Amounts
pub mod Laws
pub mod Views
pub mod Working
