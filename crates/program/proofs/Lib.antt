pub mod Bundling
pub mod AttributionLemmas
pub mod AttributionCounts
pub mod FilesSaid
pub mod Programs
pub mod Reporting
