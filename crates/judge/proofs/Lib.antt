pub mod Standing
pub mod Whole
pub mod Exactly
pub mod ColumnsProved
pub mod WorkedProved
