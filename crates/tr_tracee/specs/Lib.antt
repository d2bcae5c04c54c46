pub mod Lives
pub mod Threads
pub mod Marks
pub mod Stops
pub mod Ends
