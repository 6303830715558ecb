pub mod Bytes
pub mod Runs
pub mod Notations
pub mod WorkedProved
pub mod Literals
pub mod Lengths
pub mod Names
