pub mod Meanings
pub mod Places
pub mod Registers
pub mod Promises
