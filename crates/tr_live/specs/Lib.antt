pub mod Commands
pub mod Conversations
pub mod Dialogues
pub mod Mistakes
