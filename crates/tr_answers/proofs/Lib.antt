pub mod Counts
pub mod Lists
pub mod Naming
pub mod Numerals
pub mod Spared
pub mod Told
pub mod Walking
pub mod Words
