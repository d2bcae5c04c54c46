pub mod Firsts
pub mod Passing
pub mod Untold
