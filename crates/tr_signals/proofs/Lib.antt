pub mod Taking
pub mod Ready
pub mod TakingAny
pub mod Chosen
