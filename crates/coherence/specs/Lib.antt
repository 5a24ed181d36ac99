pub mod System
pub mod Steps
pub mod Coherent
pub mod Crossings
