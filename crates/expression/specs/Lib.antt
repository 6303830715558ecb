pub mod Amounts
pub mod Claims
pub mod Expressions
pub mod Integers
