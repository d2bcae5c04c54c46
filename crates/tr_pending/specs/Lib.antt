pub mod View
pub mod Waiting
