pub mod Places
pub mod Replaced
pub mod Paths
pub mod RingLemmas
pub mod Maps
pub mod NodeLemmas
