pub mod CacheLists
pub mod Pages
pub mod Reference
