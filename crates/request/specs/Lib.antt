pub mod Request
pub mod Claims
