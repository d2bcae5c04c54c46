pub mod Saying
pub mod TableTexts
pub mod Talks
