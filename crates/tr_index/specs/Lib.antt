pub mod Counts
pub mod Multisets
pub mod Pages
pub mod Places
