pub mod BoolLaws
pub mod ListLaws
pub mod TestLaws
pub mod LayoutLaws
pub mod FormatLaws
pub mod StoreLaws
