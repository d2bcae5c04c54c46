pub mod Changes
pub mod Choices
pub mod Hashing
pub mod Lines
pub mod Queues
pub mod Slots
