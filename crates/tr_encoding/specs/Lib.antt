pub mod Calls
pub mod Private
pub mod Scenarios
pub mod Sets
