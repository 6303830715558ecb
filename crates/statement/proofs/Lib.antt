pub mod Every
pub mod Stops
pub mod Words
pub mod Bound
pub mod Variants
pub mod Each
