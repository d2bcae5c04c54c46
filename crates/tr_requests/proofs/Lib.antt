pub mod Cloning
pub mod Leaving
pub mod Restarting
