pub mod News
pub mod UnderWay
pub mod Places
