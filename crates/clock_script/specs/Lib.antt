pub mod Draft
pub mod Lines
pub mod Reading
pub mod Script
pub mod Texts
