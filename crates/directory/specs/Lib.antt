pub mod Lists
pub mod Directory
pub mod Serving
pub mod TakeUp
pub mod Arrivals
pub mod Sound
pub mod Records
