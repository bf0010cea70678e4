mod Numbers
pub mod Totals
mod Invariants
mod Answered
