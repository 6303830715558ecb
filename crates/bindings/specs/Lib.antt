-- The definitions that the contracts cite, and the claim.
pub mod Table
pub mod Shows
