pub mod Running
pub mod Laws
