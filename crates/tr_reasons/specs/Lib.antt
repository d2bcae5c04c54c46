pub mod Explained
pub mod Explains
pub mod Private
pub mod Reasons
pub mod Sentences
