pub mod Finished
pub mod Grouped
pub mod PpsAnswers
pub mod PpsRanges
pub mod Repeats
pub mod SpsAnswers
pub mod SpsRanges
mod Worked
