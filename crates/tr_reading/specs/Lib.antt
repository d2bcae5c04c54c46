pub mod Events
pub mod Faults
pub mod Fields
pub mod Groups
pub mod Kinds
pub mod Scenarios
pub mod Steps
pub mod Workers
