-- The laws of the arms of a statement.
pub mod StepLaws
