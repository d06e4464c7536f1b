mod Bytes
pub mod DateLemmas
mod Heads
mod Joining
mod Reading
mod Writing
