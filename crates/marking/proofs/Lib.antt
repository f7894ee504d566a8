pub mod PlaceLemmas
pub mod FrameLemmas
pub mod CountLemmas
pub mod SomeLemmas
pub mod PartLemmas
pub mod MarkedLemmas
pub mod OperationLemmas
pub mod InfoLemmas
pub mod HistoryLemmas
pub mod SettledLemmas
pub mod NamedLemmas
pub mod StandsLemmas
pub mod BegunLemmas
pub mod NumberLemmas
mod HeaderLemmas
