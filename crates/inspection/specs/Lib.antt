pub mod Figures
pub mod Inspections
pub mod Running
pub mod Texts
