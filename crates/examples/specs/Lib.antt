pub mod Mistakes
pub mod WrongStatements
