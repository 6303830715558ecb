pub mod Fragment
pub mod Claims
pub mod Worked
