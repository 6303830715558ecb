pub mod RowLaws
pub mod PassLaws
pub mod PrintLaws
pub mod Theorems
