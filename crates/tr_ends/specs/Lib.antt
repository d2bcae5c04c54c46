pub mod KnownDeaths
pub mod Private
