pub mod CaptureFaults
pub mod Captures
pub mod Passes
pub mod Readers
pub mod Reference
pub mod Upgrades
