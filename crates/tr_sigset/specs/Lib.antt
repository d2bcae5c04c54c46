pub mod Sets
pub mod Signals
