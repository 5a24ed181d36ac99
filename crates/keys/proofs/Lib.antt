pub mod Promises
pub mod ByMeaning
pub mod Rows
