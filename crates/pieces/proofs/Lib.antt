pub mod DigitLaws
pub mod Texts
