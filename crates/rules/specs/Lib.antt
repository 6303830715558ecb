pub mod Counting
pub mod State
pub mod Rows
pub mod Reasons
pub mod Sheet
pub mod Claims
pub mod Outstanding
pub mod Worked
