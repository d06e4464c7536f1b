pub mod Ahead
pub mod Batches
pub mod Connections
pub mod Gathering
pub mod Laws
pub mod Parts
pub mod Reference
