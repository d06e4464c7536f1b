pub mod Prefixes
pub mod Keeps
pub mod Rulings
pub mod Taken
