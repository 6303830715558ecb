pub mod Judged
pub mod Columns
pub mod Worked
pub mod Standing
