pub mod Printed
pub mod Allocs
