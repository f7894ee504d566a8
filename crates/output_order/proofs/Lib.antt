pub mod HeldLemmas
pub mod OrderLemmas
pub mod WaitingLemmas
pub mod ComesFirst
