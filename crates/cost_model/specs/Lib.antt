pub mod Reference
pub mod Services
