pub mod ListLaws
pub mod FragmentLaws
pub mod Exact
pub mod WorkedProved
