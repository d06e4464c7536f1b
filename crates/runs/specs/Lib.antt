pub mod Ports
pub mod Failures
pub mod Upgrading
pub mod Slimming
pub mod Folders
pub mod Inspecting
pub mod InForce
