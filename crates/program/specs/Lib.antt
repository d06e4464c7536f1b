pub mod Bundles
pub mod Replays
