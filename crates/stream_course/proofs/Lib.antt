pub mod First
pub mod Numbers
pub mod Joining
pub mod Reading
pub mod Showing
pub mod Turns
