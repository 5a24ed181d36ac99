pub mod Refusals
pub mod Assignments
pub mod Answers
pub mod Central
pub mod Kinds
pub mod Texts
