pub mod NamingLaws
pub mod NumberLaws
pub mod Exact
pub mod ListedN
