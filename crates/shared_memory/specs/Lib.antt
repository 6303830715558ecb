pub mod Shared
pub mod Claims
