pub mod Sound
pub mod Agree
pub mod AnyStarts
pub mod NotesProved
pub mod OurStarts
pub mod Demand3Proved
pub mod Example
