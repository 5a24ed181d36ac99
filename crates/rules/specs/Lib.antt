pub mod Plans
pub mod Boards
pub mod Shares
