pub mod Devices
pub mod Displays
pub mod FlipParts
pub mod FlipTexts
pub mod FlipWindows
pub mod Room
pub mod Shown
