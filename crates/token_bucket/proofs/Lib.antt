pub mod AccrualLemmas
pub mod CallLemmas
pub mod FitsLemmas
