pub mod Actors
pub mod Drawn
pub mod Draws
pub mod Layouts
pub mod Legends
pub mod Pictures
pub mod Rows
