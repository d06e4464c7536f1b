pub mod Choices
pub mod Explaining
pub mod Former
pub mod Laws
pub mod Outcomes
pub mod Reference
pub mod Texts
