pub mod DraftSums
pub mod LineTexts
pub mod Numerals
pub mod OneAnswer
pub mod Parts
pub mod Preemptions
pub mod ReadUpTo
pub mod ShortScripts
