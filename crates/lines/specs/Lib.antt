pub mod Sheet
pub mod Limits
pub mod Written
