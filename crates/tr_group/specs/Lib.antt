pub mod Actions
pub mod GroupStops
