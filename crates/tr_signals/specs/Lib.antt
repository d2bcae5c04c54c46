pub mod Scripts
pub mod Private
