pub mod Standing
pub mod Passes
pub mod Made
pub mod Jobs
pub mod InHand
pub mod Mixes
pub mod Renders
