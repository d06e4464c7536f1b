pub mod After
pub mod Calls
pub mod Reference
pub mod Running
pub mod Standing
