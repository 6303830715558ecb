pub mod Descriptor
pub mod Instruction
pub mod Claims
