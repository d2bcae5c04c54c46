pub mod Each
pub mod Keys
pub mod NotJson
pub mod Repeats
pub mod Spared
pub mod Texts
