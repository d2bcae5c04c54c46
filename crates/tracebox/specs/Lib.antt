pub mod Faults
pub mod Meanings
pub mod Performing
