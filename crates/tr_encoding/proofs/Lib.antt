mod Depths
mod Made
mod Members
mod ReadBack
pub mod Wholes
