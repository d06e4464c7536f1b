pub mod Messages
pub mod Reference
pub mod Replies
