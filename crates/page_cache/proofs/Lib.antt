pub mod CacheLemmas
pub mod EvictLemmas
pub mod KeepLemmas
pub mod LawLemmas
pub mod MediaLemmas
