pub mod Parts
pub mod Reference
pub mod Resolution
pub mod SnapshotFaults
pub mod Snapshots
