pub mod Views
pub mod Forms
pub mod Cells
pub mod Opcodes
pub mod Reading
pub mod Canonical
pub mod Positions
