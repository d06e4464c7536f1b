pub mod Targets
pub mod Blocks
pub mod Slims
pub mod Steps
pub mod Laws
