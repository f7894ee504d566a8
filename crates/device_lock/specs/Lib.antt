pub mod Lists
pub mod Views
pub mod Numbers
pub mod Rule
pub mod Steps
pub mod Passes
pub mod Lends
pub mod Histories
