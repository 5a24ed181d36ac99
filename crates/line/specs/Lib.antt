pub mod Outcomes
pub mod Requested
pub mod Received
pub mod LetGo
pub mod Questions
pub mod Texts
