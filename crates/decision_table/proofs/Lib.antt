pub mod Escapes
pub mod Writing
