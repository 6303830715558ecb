pub mod ValueLaws
pub mod SearchLaws
