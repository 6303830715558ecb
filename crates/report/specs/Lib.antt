pub mod Report
pub mod Pieces
