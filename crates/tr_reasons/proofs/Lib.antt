pub mod Firsts
pub mod OfCauses
pub mod Whys
pub mod Wholes
