-- Laws that belong to no one function.
pub mod AllocationLaws
pub mod FoundLaws
pub mod PlaceLaws
pub mod SlotLaws
pub mod BookingLaws
pub mod ShowLaws
