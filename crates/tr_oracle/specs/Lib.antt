pub mod Verdicts
pub mod Expected
pub mod Offers
pub mod Ways
