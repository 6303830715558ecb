pub mod LineLaws
pub mod LayoutLaws
pub mod HeaderLaws
pub mod SheetLaws
pub mod SheetTheorems
pub mod Examples
pub mod ReaderTheorems
pub mod LimitsProved
