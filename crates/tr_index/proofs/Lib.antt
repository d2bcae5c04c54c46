pub mod Following
pub mod Indexing
pub mod Mapped
pub mod Multisets
pub mod Numbered
pub mod Places
pub mod Positions
