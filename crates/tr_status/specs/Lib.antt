pub mod Faults
pub mod Private
pub mod Shown
pub mod Statuses
pub mod Texts
pub mod Writing
