pub mod EditLemmas
pub mod FindLemmas
pub mod FittedLemmas
pub mod MovedLemmas
pub mod OrderLemmas
pub mod OrderSteps
pub mod PlaceLemmas
