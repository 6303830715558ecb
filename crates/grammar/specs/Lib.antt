pub mod Spells
pub mod Operands
pub mod Claims
pub mod Examples
pub mod WorkedExpressions
