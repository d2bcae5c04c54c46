pub mod Members
pub mod Blocks
pub mod Sums
pub mod Masks
pub mod ReadyWords
pub mod Nibbles
