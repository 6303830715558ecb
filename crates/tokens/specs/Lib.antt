pub mod Text
pub mod Bytes
pub mod Names
pub mod Numbers
pub mod Worked
pub mod Claims
pub mod Cursors
