-- The laws of what a reason points at.
pub mod BlameLaws
