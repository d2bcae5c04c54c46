pub mod Codes
pub mod Fronts
pub mod Lines
pub mod SameSets
