pub mod Laws
pub mod Rows
pub mod Halves
pub mod Answers
