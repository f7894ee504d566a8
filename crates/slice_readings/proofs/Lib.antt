pub mod BlockChoices
pub mod KindChoices
pub mod MacroblockChoices
pub mod PartReadings
pub mod SliceDataChoices
pub mod SliceReadings
pub mod SpellingDecided
pub mod TableReadings
