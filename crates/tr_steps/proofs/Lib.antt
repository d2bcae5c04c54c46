pub mod Helds
pub mod Groups
pub mod Continues
pub mod Put
pub mod Slight
