pub mod ReportLaws
pub mod Bounds
pub mod Examples
