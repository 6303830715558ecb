pub mod Tests
pub mod Lists
pub mod Layout
pub mod Format
pub mod Rules
pub mod Worked
