pub mod Alone
pub mod Worked
