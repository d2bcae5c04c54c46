pub mod Ascending
pub mod GoodStarts
pub mod Ids
