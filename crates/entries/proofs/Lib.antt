pub mod EntriesProved
pub mod WorkedProved
