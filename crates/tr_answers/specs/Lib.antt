pub mod Comparisons
pub mod Compares
pub mod Fits
pub mod Private
pub mod Records
