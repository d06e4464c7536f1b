pub mod Alone
pub mod Cutting
pub mod Lines
pub mod Parts
pub mod Reference
pub mod Scanning
