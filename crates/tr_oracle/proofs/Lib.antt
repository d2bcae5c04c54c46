pub mod Finding
pub mod Earliest
pub mod Complete
pub mod Sound
pub mod First
pub mod Expecting
pub mod Admitting
