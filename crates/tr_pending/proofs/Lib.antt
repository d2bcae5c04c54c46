pub mod Best
pub mod Masks
