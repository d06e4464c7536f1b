pub mod Devices
pub mod Numbers
pub mod Parts
pub mod Reference
pub mod Texts
