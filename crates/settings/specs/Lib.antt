pub mod ConfigFaults
pub mod Keys
pub mod Documents
pub mod Pools
pub mod Routes
pub mod SettingsTable
pub mod WrittenOut
pub mod FaultWords
