pub mod Ascending
pub mod Starts
