pub mod Searches
pub mod Arrays
pub mod Zones
pub mod Soundness
